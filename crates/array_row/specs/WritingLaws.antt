-- A loop that takes letters out of a word and writes them one behind another: stacks are read off, or pairs are taken
-- off at both ends. Each letter written makes the word shorter by `each`, and `Goes y g z` says that from the word y on
-- the letters g are written and z is left.
use Rattle.std.specs.Prelude.{ℕ, ◌+◌, ◌*◌, ◌<◌, ◌≤◌, ◌≡◌, refl, List, [], ◌∷◌, ◌++◌, length, take, drop, set}
use Rattle.std.proofs.Common.{sym, ◌∙◌, ap, subst, append_assoc, append-nil, arith, mul-suc, mul-zero, add-one, length-set, take-suc-set, drop-set-lt, drop-drop}
use Rattle.std.proofs.Math.Nat.{lt_of_mul-lt-mul_left}

take_more : (area s : List ℕ) (l b : ℕ) → l < length area → take l area ++ b ∷ s ≡ take (l + 1) (set area l b) ++ s
take_more area s l b h = rw (add-one, take-suc-set area l b h, append_assoc)

drop_more : (area before : List ℕ) (l b : ℕ) → drop l area ≡ drop l before
    → drop (l + 1) (set area l b) ≡ drop (l + 1) before
drop_more area before l b k =
    drop-set-lt (l + 1) area l b (omega arith)
    ∙ sym (drop-drop 1 l area) ∙ ap (drop 1) k ∙ drop-drop 1 l before

-- l letters of x are written behind one another, and the word y is left, of which something holds
pub record Writing (Holds : List ℕ → Type 0) (Goes : List ℕ → List ℕ → List ℕ → Type 0) (each : ℕ)
    (x before area : List ℕ) (l : ℕ) (y : List ℕ) : Type 0 where
  pub left : Holds y
  pub long : length area ≡ length before
  pub room : length x ≤ each * length before
  pub count : each * l + length y ≡ length x
  pub goes : (g z : List ℕ) → Goes y g z → Goes x (take l area ++ g) z
  pub kept : drop l area ≡ drop l before

pub writing_start : {Holds : List ℕ → Type 0} {Goes : List ℕ → List ℕ → List ℕ → Type 0} {each : ℕ} {x area : List ℕ}
    → Holds x → length x ≤ each * length area → Writing Holds Goes each x area area 0 x
writing_start {each = each} h r = record {
  left = h;
  long = refl;
  room = r;
  count = omega (arith, mul-zero each);
  goes = λ g z p. p;
  kept = refl;
}

module _ {Holds : List ℕ → Type 0} {Goes : List ℕ → List ℕ → List ℕ → Type 0} {each : ℕ} {x before area : List ℕ}
    {l : ℕ} {y : List ℕ} (w : Writing Holds Goes each x before area l y) where
  pub writing_end : {z : List ℕ} → Goes y [] z → Goes x (take l area) z
  writing_end {z} p = subst (λ (u : List ℕ). Goes x u z) (append-nil (take l area)) (w.goes [] z p)

  -- while letters are left there is a place for one more
  pub writing_fits : 0 < length y → l < length area
  writing_fits h =
      lt_of_mul-lt-mul_left each (omega (arith, w.room, w.count, ap (λ (n : ℕ). each * n) w.long))

  -- the letter b is written, and the word s is left
  pub writing_again : {Holds' : List ℕ → Type 0} (b : ℕ) {s : List ℕ} → Holds' s → each + length s ≡ length y
      → l < length area → ((g z : List ℕ) → Goes s g z → Goes y (b ∷ g) z)
      → Writing Holds' Goes each x before (set area l b) (l + 1) s
  writing_again b {s} h n f t = record {
    left = h;
    long = length-set area l b ∙ w.long;
    room = w.room;
    count = omega (arith, w.count, ap (λ (i : ℕ). each * i) (add-one l), mul-suc each l);
    goes = λ g z p.
        subst (λ (u : List ℕ). Goes x u z) (take_more area g l b f) (w.goes (b ∷ g) z (t g z p));
    kept = drop_more area before l b w.kept;
  }
