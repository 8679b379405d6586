-- The tokens from a place of a text on.
use Rattle.std.specs.Prelude.{ℕ, suc, ◌+◌, ◌-◌, ◌≤◌, ◌<◌, ◌≡◌, List, [], ◌∷◌, length, drop, get_or}
use Rattle.std.proofs.Common.{add-one, arith, sym, ◌∙◌, ap, length-drop, drop_of_length-le, drop-cons}
use Rattle.std.proofs.lemmas.List.{length-map}
use Rattle.std.proofs.Math.ListN.{get_or-map}
use Rattle.spec.specs.Notation.{Token, token_of, tokens}

module _ (s : List ℕ) (i : ℕ) where
  pub tokens_left : length (drop i (tokens s)) ≡ length s - i
  tokens_left = length-drop i (tokens s) ∙ ap (λ n. n - i) (length-map s token_of)

  -- a token stands at a place within the text, and none behind it
  pub tokens_at : i < length s → {x : Token} → x ≡ token_of (get_or s i 0)
      → drop i (tokens s) ≡ x ∷ drop (i + 1) (tokens s)
  tokens_at h e =
      rw add-one
      (drop-cons (tokens s) i (token_of 0) (omega (arith, length-map s token_of))
      ∙ ap (λ t. t ∷ drop (suc i) (tokens s)) (get_or-map token_of s i 0 ∙ sym e))

  pub tokens_past : length s ≤ i → drop i (tokens s) ≡ []
  tokens_past h = drop_of_length-le (tokens s) {i = i} (omega (arith, length-map s token_of))
