-- Two words of one length compared block by block: they agree up to what is left of each.
use Rattle.std.specs.Prelude.{◌≡◌, ℕ, List, [], ◌∷◌, ◌++◌, length, take}
use Rattle.std.proofs.Common.{arith, sym, ◌∙◌, ap, append_assoc, length-append}
use Rattle.std.proofs.Math.Seq.{take-append_seam}
use Rattle.std.proofs.lemmas.List.{append_cancel_left}

pub record Agreed (word other rest left : List ℕ) : Type 0 where
  pub done : List ℕ
  pub first : word ≡ done ++ rest
  pub second : other ≡ done ++ left
  pub even : length rest ≡ length left

-- one block more of both
pub agreed_more : {word other rest left a b rest' left' : List ℕ} → Agreed word other rest left → rest ≡ a ++ rest'
    → left ≡ b ++ left' → a ≡ b → Agreed word other rest' left'
agreed_more {a = a} {b} {rest'} {left'} h e f g = record {
  done = h.done ++ a;
  first = h.first ∙ ap (λ (z : List ℕ). h.done ++ z) e ∙ sym (append_assoc h.done a rest');
  second =
      let i = ap (λ (z : List ℕ). h.done ++ z) (f ∙ ap (λ (z : List ℕ). z ++ left') (sym g)) in
      h.second ∙ i ∙ sym (append_assoc h.done a left');
  even = omega (
    arith,
    h.even,
    ap length e,
    ap length f,
    ap length g,
    length-append a rest',
    length-append b left',
  );
}

-- a block in which they differ
pub agreed_less : {word other rest left a b : List ℕ} (rest' left' : List ℕ) → Agreed word other rest left
    → rest ≡ a ++ rest' → left ≡ b ++ left' → length a ≡ length b → ¬ (a ≡ b) → ¬ (word ≡ other)
agreed_less {rest = rest} {left} {a} {b} rest' left' h e f l n w =
    let d = append_cancel_left h.done rest left (sym h.first ∙ w ∙ h.second) in
    let g = ap (take (length a)) (sym e ∙ d ∙ f) ∙ ap (λ (k : ℕ). take k (b ++ left')) l in
    n (sym (take-append_seam a rest') ∙ g ∙ take-append_seam b left')

-- nothing is left
pub agreed_all : {word other rest left : List ℕ} → Agreed word other rest left → length rest ≡ 0 → word ≡ other
agreed_all {rest = []} {left = []} h z = h.first ∙ sym h.second
agreed_all {rest = []} {left = y ∷ ys} h z = absurd (omega (arith, h.even))
agreed_all {rest = x ∷ xs} h z = absurd (omega arith)
