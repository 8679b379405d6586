-- One pass over a text: the machine has come to place i, in a state of this mode and depth.
use Rattle.std.specs.Prelude.{ℕ, suc, ◌+◌, ◌-◌, ◌<◌, ◌≤◌, ◌≡◌, refl, Bool, true, false, ◌&&◌, List, [], ◌∷◌, get_or, drop}
use Rattle.std.specs.Prelude as rust
use Rattle.std.proofs.Common.{arith, add-one, ◌∙◌}
use Rattle.std.proofs.Math.Path.{sym, ap}
use Rattle.std.proofs.Math.Option.{Option, none, some}
use Rattle.std.proofs.Math.ListN.{length}
use Rattle.std.proofs.Math.Dec.{eqb}
use Rattle.spec.specs.Table.{or_else, first_line, line_at}
use Rattle.spec.specs.WriteOut.{text_line, nesting_line}
use Rattle.spec.specs.Notation.{Token, Items, token_of, tokens, first, first_deep}
use Rattle.spec.specs.Scanner.{State, start, run, run_step, next, allowed, may_end, Outcome, says, wrong, wrong_left}
use Rattle.input_catalogue.specs.SoundLaws.{some-none}
use Rattle.notation_laws.specs.FirstLaws.{first_assoc, first_alone}
use Rattle.notation_laws.specs.TokensLaws.{tokens_at, tokens_past, tokens_left}
use Rattle.notation_modes.specs.declared.Mode.{Mode}
use Rattle.notation_modes.specs.declared.Mode.TheVariants.{Free, Wrong}
use Rattle.notation_scanner.specs.declared.Faults.{Faults}
use Rattle.notation_modes.specs.Modes.{mode_of, passing, after_token}
use Rattle.notation_modes.specs.ModeLaws.{after_like, ends_like, passes, fails}
use Rattle.notation_scanner.specs.Places.{depth_after, told_place, deep_here}
use Rattle.notation_scanner.specs.Places.{end_step, end_place, wrong_place, Finds, decision}
use Rattle.notation_scanner.specs.PlaceLaws.{depth_like, depth_low, deep_step}

-- One token read

run_goes : (σ : State) (x : Token) (r : List Token) → allowed σ.begun (length σ.around) x ≡ true
    → run σ (x ∷ r) ≡ run (next σ x (suc (length r))) r
unfolding run
run_goes σ x r e = ap (λ b. run_step b (run (next σ x (suc (length r))) r) (wrong (suc (length r)))) e

run-wrong : (σ : State) (x : Token) (r : List Token) → allowed σ.begun (length σ.around) x ≡ false
    → run σ (x ∷ r) ≡ wrong (suc (length r))
unfolding run
run-wrong σ x r e = ap (λ b. run_step b (run (next σ x (suc (length r))) r) (wrong (suc (length r)))) e

end_like : (b : Bool) (t : Items) (n : ℕ) → wrong_place n (run_step b (says t) (wrong 0)) ≡ end_step b n
end_like true t n = refl
end_like false t n = ap some (omega arith)

pub record Scanning (s : List ℕ) (mode : Mode) (depth : ℕ) (deep : rust.Option ℕ) (i : ℕ) : Type 0 where
  pub σ : State
  pub same : run start (tokens s) ≡ run σ (drop i (tokens s))
  pub like : mode ≡ mode_of σ.begun
  pub opened : length σ.around ≡ depth
  pub deepest : first_deep 0 0 (tokens s) ≡ first (told_place deep) (first_deep depth i (drop i (tokens s)))
  pub low : depth ≤ i
  pub high : i ≤ length s

pub scanning_start : (s : List ℕ) → Scanning s Free 0 rust.None 0
scanning_start s = record {
  σ = start;
  same = refl;
  like = refl;
  opened = refl;
  deepest = refl;
  low = omega arith;
  high = omega arith;
}

module _
    {s : List ℕ} {mode : Mode} {depth : ℕ} {deep : rust.Option ℕ} {i : ℕ} (g : Scanning s mode depth deep i) (l : i < length s)
    {x : Token} (e : x ≡ token_of (get_or s i 0)) where
  here : drop i (tokens s) ≡ x ∷ drop (suc i) (tokens s)
  here = rw add-one at (tokens_at s i l e)

  goes : (n : ℕ)
      → after_token mode depth x
      ≡ passing (allowed g.σ.begun (length g.σ.around) x) (mode_of (next g.σ x n).begun)
  goes n =
      ap (λ m. after_token m depth x) g.like
      ∙ ap (λ d. after_token (mode_of g.σ.begun) d x) (sym g.opened)
      ∙ after_like g.σ x n

  pub scanning_again : {mode' : Mode} {depth' : ℕ} {deep' : rust.Option ℕ} → mode' ≡ after_token mode depth x
      → (mode' ≡ Wrong → ⊥) → told_place deep' ≡ first (told_place deep) (deep_here depth i x)
      → depth' ≡ depth_after depth x → Scanning s mode' depth' deep' (i + 1)
  scanning_again {mode'} {depth'} {deep'} m w p d =
      let r = drop (suc i) (tokens s) in
      let n = suc (length r) in
      let ok : allowed g.σ.begun (length g.σ.around) x ≡ true =
      passes _ _ (λ z. w (m ∙ goes n ∙ z)) in
      rw add-one (record {
        σ = next g.σ x n;
        same = g.same ∙ ap (run g.σ) here ∙ run_goes g.σ x r ok;
        like = m ∙ goes n ∙ ap (λ b. passing b (mode_of (next g.σ x n).begun)) ok;
        opened = depth_like g.σ x n ∙ ap (λ k. depth_after k x) g.opened ∙ sym d;
        deepest =
            g.deepest
            ∙ ap (λ t. first (told_place deep) (first_deep depth i t)) here
            ∙ ap (first (told_place deep)) (deep_step depth i x r)
            ∙ first_assoc (told_place deep) (deep_here depth i x) (first_deep (depth_after depth x) (suc i) r)
            ∙ ap (λ o. first o (first_deep (depth_after depth x) (suc i) r)) (sym p)
            ∙ ap (λ k. first (told_place deep') (first_deep k (suc i) r)) (sym d);
        low = omega (arith, depth_low depth x, g.low);
        high = omega arith;
      })

  -- wrong at place i
  pub scanning_wrong : {f : Faults} → told_place f.wrong ≡ some i → Wrong ≡ after_token mode depth x → Finds s f
  scanning_wrong {f} p m =
      let r = drop (suc i) (tokens s) in
      let no : allowed g.σ.begun (length g.σ.around) x ≡ false =
      fails _ (next g.σ x (suc (length r))).begun (sym (m ∙ goes (suc (length r)))) in
      let k : length s - suc (length r) ≡ i = omega (arith, tokens_left s (suc i)) in
      record {
        wrong_at =
            p ∙ sym (ap (wrong_place (length s)) (g.same ∙ ap (run g.σ) here ∙ run-wrong g.σ x r no) ∙ ap some k);
        deep_at = λ z. absurd (some-none (sym p ∙ z));
      }

module _ {s : List ℕ} {mode : Mode} {depth : ℕ} {deep : rust.Option ℕ} {i : ℕ} (g : Scanning s mode depth deep i) where
  pub scanning_end : {f : Faults} → length s ≤ i → told_place f.wrong ≡ end_place mode depth (length s) → f.deep ≡ deep
      → Finds s f
  unfolding run first_deep
  scanning_end {f} l p d =
      let b = may_end g.σ.begun && eqb (length g.σ.around) 0 in
      let q : end_place mode depth (length s) ≡ end_step b (length s) = rw (g.like, ends_like, ← g.opened) in
      record {
        wrong_at =
            p ∙ q
            ∙ sym
            (ap (wrong_place (length s)) (g.same ∙ ap (run g.σ) (tokens_past s i l)) ∙ end_like b _ (length s));
        deep_at = λ z.
            ap told_place d ∙ sym (first_alone (told_place deep))
            ∙ sym (g.deepest ∙ ap (λ t. first (told_place deep) (first_deep depth i t)) (tokens_past s i l));
      }

-- The two lines

decide : (o : Outcome) (w d q : Option ℕ) (n : ℕ) → w ≡ wrong_place n o → (w ≡ none → d ≡ q)
    → decision w d n
    ≡ or_else (first_line (line_at 13 1 (λ l. n - l) (wrong_left o) ∷ line_at 14 1 (λ i. i) q ∷ [])) n
decide (says t) w d q n e h = rw (e, h e)
decide (wrong l) w d q n e h = rw e

pub finds_decides : {s : List ℕ} {f : Faults} → Finds s f
    → decision (told_place f.wrong) (told_place f.deep) (length s)
    ≡ or_else (first_line (text_line s ∷ nesting_line s ∷ [])) (length s)
finds_decides {s} {f} h = decide (run start (tokens s)) _ _ _ (length s) h.wrong_at h.deep_at
