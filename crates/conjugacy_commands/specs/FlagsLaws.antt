-- Laws of flags: the flagged commands are the list that the flags tell of, and flags are equal exactly if their lists
-- are.
use Rattle.std.specs.Prelude.{ℕ, zero, suc, ◌+◌, ◌-◌, ◌<◌, ◌≤◌, ◌≡◌, refl, Bool, true, false, List, [], ◌∷◌, ◌↔◌, eqb, nat_eq, length, get_or}
use Rattle.std.specs.Cmp.{unsigned_Decides}
use Rattle.std.specs.Cmp.Lexicographic.{pointwise, pointwise_decides}
use Rattle.std.proofs.lemmas.Bool.Decides.{Decides-at}
use Rattle.std.proofs.Common.{sym, ◌∙◌, ap, subst, arith, ext_get_or, eqb-true, eq-eqb}
use mathlib.Core.List.Memᴰ
use Rattle.theory_words.specs.All.{All, all_map}
use Rattle.theory_words.specs.Filter.{keep_if}
use Rattle.theory_conjugacy.specs.AscendingLaws.{◌∈◌, Ascending, ascending_equal}
use Rattle.conjugacy_commands.specs.Flags.{Flag, set, clear, Flags, flagged}

pub flag_set : {P : Type 0} {n : ℕ} → Flag P n → n ≡ 1 → P
flag_set (set p) e = p
flag_set (clear n) e = absurd (omega arith)

pub set_flag : {P : Type 0} {n : ℕ} → Flag P n → P → n ≡ 1
set_flag (set p) q = refl
set_flag (clear n) q = absurd (n q)

pub flag_map : {P Q : Type 0} {n : ℕ} → (P → Q) → (Q → P) → Flag P n → Flag Q n
flag_map f g (set p) = set (f p)
flag_map f g (clear n) = clear (λ q. n (g q))

-- a fact has one flag
pub flag_unique : {P : Type 0} {m n : ℕ} → Flag P m → Flag P n → m ≡ n
flag_unique (set p) (set q) = refl
flag_unique (set p) (clear n) = absurd (n p)
flag_unique (clear n) (set p) = absurd (n p)
flag_unique (clear n) (clear m) = refl

-- where a flagged command comes from
abbrev Place : ℕ → ℕ → List ℕ → Type 0
Place i k fs = (n : ℕ) × (n < length fs) × (i ≡ k + n) × (get_or fs n 0 ≡ 1)

place_next : {i : ℕ} (k f : ℕ) (fs : List ℕ) → Place i (k + 1) fs → Place i k (f ∷ fs)
place_next k f fs (n, l, e, t) = (suc n, omega arith, omega arith, t)

in_flagged : {i : ℕ} (k : ℕ) (fs : List ℕ) → i ∈ flagged k fs → Place i k fs
unfolding flagged keep_if
in_flagged k [] m = absurd (Memᴰ.not-nil m)
in_flagged {i} k (f ∷ fs) m = go (eqb f 1) refl m (λ n. in_flagged (k + 1) fs n)
  where
    go : (t : Bool) → eqb f 1 ≡ t → i ∈ keep_if t k (flagged (k + 1) fs)
        → (i ∈ flagged (k + 1) fs → Place i (k + 1) fs) → Place i k (f ∷ fs)
    go true e (Memᴰ.head h) g = (0, omega arith, omega arith, eqb-true f 1 e)
    go true e (Memᴰ.tail n) g = place_next k f fs (g n)
    go false e n g = place_next k f fs (g n)

flagged_in : (k n : ℕ) (fs : List ℕ) → n < length fs → get_or fs n 0 ≡ 1 → (k + n) ∈ flagged k fs
unfolding flagged keep_if
flagged_in k n [] l e = absurd (omega arith)
flagged_in k zero (f ∷ fs) l e =
    let z : k + 0 ≡ k = omega arith in
    rw (eq-eqb f 1 e, z) (Memᴰ.head refl)
flagged_in k (suc n) (f ∷ fs) l e =
    go (eqb f 1) (Memᴰ.cast (omega arith) (flagged_in (k + 1) n fs (omega arith) e))
  where
    go : (t : Bool) → (k + suc n) ∈ flagged (k + 1) fs → (k + suc n) ∈ keep_if t k (flagged (k + 1) fs)
    go true m = Memᴰ.tail m
    go false m = m

flagged_above : (k : ℕ) (fs : List ℕ) → All (λ j. k ≤ j) (flagged k fs)
unfolding flagged keep_if
flagged_above k [] = tt
flagged_above k (f ∷ fs) = go (eqb f 1) (all_map (λ j h. omega arith) (flagged (k + 1) fs) (flagged_above (k + 1) fs))
  where
    go : (t : Bool) → All (λ j. k ≤ j) (flagged (k + 1) fs) → All (λ j. k ≤ j) (keep_if t k (flagged (k + 1) fs))
    go true a = (omega arith, a)
    go false a = a

flagged_ascending : (k : ℕ) (fs : List ℕ) → Ascending (flagged k fs)
unfolding flagged keep_if
flagged_ascending k [] = tt
flagged_ascending k (f ∷ fs) = go (eqb f 1) (flagged_ascending (k + 1) fs)
    (all_map (λ j h. omega arith) (flagged (k + 1) fs) (flagged_above (k + 1) fs))
  where
    go : (t : Bool) → Ascending (flagged (k + 1) fs) → All (λ j. k < j) (flagged (k + 1) fs)
        → Ascending (keep_if t k (flagged (k + 1) fs))
    go true a b = (b, a)
    go false a b = a

pub flags_list : {ks flags : List ℕ} → Flags ks flags → flagged 1 flags ≡ ks
flags_list {ks} {flags} h =
    ascending_equal (flagged 1 flags) ks (flagged_ascending 1 flags) h.ascending
    (λ k m. there k (in_flagged 1 flags m)) back
  where
    there : (k : ℕ) → Place k 1 flags → k ∈ ks
    there k (n, l, e, t) =
        let i : k ≡ n + 1 = omega arith in
        Memᴰ.cast i (flag_set (h.each n (omega (arith, h.many))) t)

    back : (k : ℕ) → k ∈ ks → k ∈ flagged 1 flags
    back k m =
        let (l, u) = h.within k m in
        let e : k - 1 + 1 ≡ k = omega arith in
        let t = set_flag (h.each (k - 1) (omega arith)) (Memᴰ.cast e m) in
        Memᴰ.cast (omega arith) (flagged_in 1 (k - 1) flags (omega (arith, h.many)) t)

-- flags are equal exactly if they tell of the same commands
pub flags_equal : {ks js flags others : List ℕ} → Flags ks flags → Flags js others → (flags ≡ others) ↔ (ks ≡ js)
flags_equal {flags = flags} {others = others} h g = (
  (λ e. sym (flags_list h) ∙ ap (flagged 1) e ∙ flags_list g),
  (λ e. ext_get_or 0 flags others (h.many ∙ sym g.many) (λ i l.
      let m : i < 24 = omega (arith, h.many) in
      flag_unique (h.each i m)
      (subst (λ (is : List ℕ). Flag ((i + 1) ∈ is) (get_or others i 0)) (sym e) (g.each i m)))),
)

pub same_flags : {ks js flags others : List ℕ} {r : Bool} → r ≡ pointwise nat_eq flags others
    → Flags ks flags → Flags js others → (r ≡ true) ↔ (ks ≡ js)
same_flags {flags = flags} {others = others} {r} e h g =
    let d = Decides-at r (pointwise nat_eq flags others) e (pointwise_decides unsigned_Decides flags others) in
    let f = flags_equal h g in
    ((λ t. f.0 (d.0 t)), (λ k. d.1 (f.1 k)))
