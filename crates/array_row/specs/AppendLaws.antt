-- Words in a row: one behind another, one over another.
use Rattle.std.specs.Prelude.{ℕ, ◌+◌, ◌-◌, ◌≤◌, ◌≡◌, List, ◌++◌, length, take, drop}
use Rattle.std.proofs.Common.{arith, ◌∙◌, ap, append_assoc, length-append, length-take-le, take_at, drop_at, drop-drop}
use Rattle.std.proofs.Math.Seq.{drop-append-add}
use Rattle.array_row.specs.Row.{Appended}
use Rattle.array_row.specs.RowLaws.{appended_take}

-- what stands past the word is as it was
appended_drop : {before after word : List ℕ} {at end : ℕ} → Appended before at word after end → (n : ℕ) → end ≤ n
    → end ≤ length before → drop n after ≡ drop n before
appended_drop {before} {word = word} {at} {end} a n h l =
    let p : List ℕ = take at before ++ word in
    let e : length p ≡ end
    = omega (arith, length-append (take at before) word, length-take-le at before (omega (arith, a.ends)), a.ends) in
    let f : n ≡ length p + (n - end) = omega arith in
    let g : end + (n - end) ≡ n = omega arith in
    ap (λ z. drop n z) a.bytes
    ∙ ap (λ z. drop z (p ++ drop end before)) f
    ∙ drop-append-add p (drop end before) (n - end)
    ∙ drop-drop (n - end) end before
    ∙ ap (λ z. drop z before) g

-- one word behind another
pub appended_then : {before middle after p q : List ℕ} {at mid end : ℕ} → Appended before at p middle mid
    → Appended middle mid q after end → mid ≤ length before → Appended before at (p ++ q) after end
appended_then {before} {middle} {after} {p} {q} {at} {mid} {end} a b l = record {
  ends = omega (arith, a.ends, b.ends, length-append p q);
  bytes =
      b.bytes
      ∙ ap (λ z. (z ++ q) ++ drop end middle) (appended_take a l)
      ∙ ap (λ z. ((take at before ++ p) ++ q) ++ z) (appended_drop a end (omega (arith, b.ends)) l)
      ∙ ap (λ z. z ++ drop end before) (append_assoc (take at before) p q);
}

-- a word over another that ends no later
pub appended_over : {before middle after p q : List ℕ} {at mid end : ℕ} → Appended before at p middle mid
    → Appended middle at q after end → mid ≤ length before → mid ≤ end → Appended before at q after end
appended_over {before} {middle} {after} {p} {q} {at} {mid} {end} a b l h =
    let n : length (take at before) ≡ at = length-take-le at before (omega (arith, a.ends)) in
    let t : take at middle ≡ take at before
    = ap (λ z. take at z) (a.bytes ∙ append_assoc (take at before) p (drop mid before))
    ∙ take_at (take at before) (p ++ drop mid before) at n in
    record {
      ends = b.ends;
      bytes =
          b.bytes
          ∙ ap (λ z. (z ++ q) ++ drop end middle) t
          ∙ ap (λ z. (take at before ++ q) ++ z) (appended_drop a end h l);
    }

-- what stands between its ends
pub appended_between : {before after word : List ℕ} {at end : ℕ} → Appended before at word after end
    → end ≤ length before → drop at (take end after) ≡ word
appended_between {before} {word = word} {at} a l =
    ap (λ z. drop at z) (appended_take a l)
    ∙ drop_at (take at before) word at (length-take-le at before (omega (arith, a.ends)))
