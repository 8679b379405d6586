-- Whether a row is ready, as the searches tell it: by the bead before the height, or by the height before the bead.
use Rattle.std.specs.Prelude.{ℕ, ◌%◌, ◌<◌, ◌≤◌, ◌≡◌, List, [], get_or}
use Rattle.std.proofs.Common.{sym, ◌∙◌, ap, arith}
use Rattle.piling_read.specs.Reading.{Room, Ready}

-- an index wrapped into a row
pub in_row : (n : ℕ) → n % 1024 < 1024
in_row n = omega arith

in_range : (n : ℕ) → n < 1024 → n % 1024 ≡ n
in_range n h = omega arith

module _ {rows : List (List ℕ)} {heights at : List ℕ} (m : Room rows heights at) {k : ℕ} (l : k < 24) where
  pub room_low : get_or at k 0 ≤ 1024
  room_low = omega (arith, m.low k l, m.high k l)

  -- a bead that is left is one of the row's 1,024
  pub ready_index : get_or at k 0 < get_or heights k 0 → get_or at k 0 < 1024
  ready_index h = omega (arith, m.high k l)

  -- so its index is itself when wrapped
  wrap_left : get_or at k 0 < get_or heights k 0 → get_or at k 0 % 1024 ≡ get_or at k 0
  wrap_left h = in_range _ (ready_index h)

  -- the bead at the wrapped index is a blank, or it is a letter and one of those left
  pub not_ready_wrapped : get_or (get_or rows k []) (get_or at k 0 % 1024) 0 ≡ 0 → Ready rows heights at k → ⊥
  not_ready_wrapped e o = o.1 (ap (λ n. get_or (get_or rows k []) n 0) (sym (wrap_left o.0)) ∙ e)

  pub ready_wrapped : (get_or (get_or rows k []) (get_or at k 0 % 1024) 0 ≡ 0 → ⊥) → get_or at k 0 < get_or heights k 0
      → Ready rows heights at k
  ready_wrapped n h = (h, λ e. n (ap (λ i. get_or (get_or rows k []) i 0) (wrap_left h) ∙ e))
