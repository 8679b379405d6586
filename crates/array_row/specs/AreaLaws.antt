-- The bytes that an area now starts with.
use Rattle.std.specs.Prelude.{ℕ, ◌≤◌, ◌≡◌, List, ◌++◌, length, take, drop}
use Rattle.std.proofs.Common.{arith, sym, ◌∙◌, ap, length-append, take_at}
use Rattle.array_row.specs.Area.{StartsWith}

module _ {x before after : List ℕ} {r : ℕ} (s : StartsWith x before after r) where
  pub starts_length : r ≡ length x
  starts_length = omega (arith, s.ends)

  pub starts_fits : r ≤ length after
  starts_fits = omega (arith, ap length s.bytes, length-append x (drop r before), s.ends)

  pub starts_take : take r after ≡ x
  starts_take = ap (take r) s.bytes ∙ take_at x (drop r before) r (sym starts_length)

  pub starts_count : r ≡ length (take r after)
  starts_count = starts_length ∙ ap length (sym starts_take)

  -- as the calls word it
  pub starts_area : after ≡ x ++ drop (length x) before
  starts_area = s.bytes ∙ ap (λ n. x ++ drop n before) starts_length
