-- Where no digit stands: a token is told to be none, or the text has ended.
use Rattle.std.proofs.Common.{ℕ, ◌+◌, ◌≤◌, ◌<◌, ◌≡◌, refl, List, ◌∷◌, length, drop, get_or}
use Rattle.spec.specs.Notation as notation
use Rattle.notation_laws.specs.Ended.{NoDigit}
use Rattle.notation_laws.specs.TokensLaws.{tokens_at, tokens_past}
use Rattle.notation_tokens.specs.declared.Token.{Token}
use Rattle.notation_tokens.specs.declared.Token.TheVariants.{Blank, Opening, Closing, Minus, Digit, Other}
use Rattle.notation_tokens.specs.Told.{told_token}

no_digit : (t : Token) → ((d : ℕ) → t ≡ Digit d → ⊥) → (z : List notation.Token) → NoDigit (told_token t ∷ z)
no_digit Blank h z = tt
no_digit Opening h z = tt
no_digit Closing h z = tt
no_digit Minus h z = tt
no_digit (Digit d) h z = absurd (h d refl)
no_digit Other h z = tt

module _ (s : List ℕ) (i : ℕ) where
  pub no_digit_at : i < length s → (t : Token) → told_token t ≡ notation.token_of (get_or s i 0)
      → ((d : ℕ) → t ≡ Digit d → ⊥) → NoDigit (drop i (notation.tokens s))
  no_digit_at l t e h = rw (tokens_at s i l e) (no_digit t h (drop (i + 1) (notation.tokens s)))

  pub no_digit_past : length s ≤ i → NoDigit (drop i (notation.tokens s))
  no_digit_past l = rw (tokens_past s i l) tt
