-- Laws of sets: the empty set, and a command put in, whether it was in already or not.
use Rattle.std.specs.Prelude.{ℕ, zero, suc, ◌+◌, ◌<◌, ◌≤◌, ◌≡◌, refl, ◌⊎◌, ◌↔◌, List, [], ◌∷◌, length, get_or, set, replicate}
use Rattle.std.proofs.Common.{arith, ◌∙◌, inl, inr, length-set, get_or-set_same, get_or-set_other}
use Rattle.std.proofs.Math.Decide.{ℕ_discrete}
use Rattle.array_counts.specs.Heights.{Both, Changed}
use Rattle.array_sets.specs.Sets.{In, Clear, Table, Size, none, less, more, Meeting, Added, empty}

-- the empty set

zeros : (n j : ℕ) → ◌≡◌ {A = ℕ} (get_or (replicate n 0) j 0) 0
zeros zero j = refl
zeros (suc n) zero = refl
zeros (suc n) (suc j) = zeros n j

size_zeros : (n : ℕ) → Size (replicate n 0) 0
size_zeros zero = none
size_zeros (suc n) = less {a = 0} (omega arith) (size_zeros n)

pub none_in : (j : ℕ) → In empty j → ⊥
unfolding empty
none_in j h = omega (arith, zeros 24 j)

pub empty_meeting : {rows : List (List ℕ)} → Meeting rows empty
unfolding empty
empty_meeting = record {
  wide = refl;
  many = 0;
  size = size_zeros 24;
  few = λ i l. inl (omega (arith, zeros 24 i));
  most = λ i l. omega (arith, zeros 24 i);
  tells = λ i l. (λ e j h a b. omega (arith, zeros 24 j), λ f. zeros 24 i);
}

-- a command in a set conflicts with a command in it: with itself
pub in_unclear : {rows : List (List ℕ)} → Table rows → (s : List ℕ) (k : ℕ) → k < 24 → In s k
    → Clear (get_or rows k []) s → ⊥
in_unclear t s k l i f = f k l (t.own k l) i

-- how many are in a set

pub size_most : {s : List ℕ} {n : ℕ} → Size s n → n ≤ length s
size_most none = omega arith
size_most (less l z) = omega (arith, size_most z)
size_most (more l z) = omega (arith, size_most z)

-- the same commands are in another set
size_same : {s : List ℕ} {n : ℕ} → Size s n → (t : List ℕ) → length t ≡ length s
    → ((j : ℕ) → j < length s → In t j ↔ In s j) → Size t n
size_same none [] e f = none
size_same none (b ∷ t) e f = absurd (omega arith)
size_same (less l z) [] e f = absurd (omega arith)
size_same (less l z) (b ∷ t) e f =
    let n : ¬ (32768 ≤ b) = λ h. omega (arith, (f 0 (omega arith)).0 h) in
    let o : b < 32768 = omega arith in
    less o (size_same z t (omega arith) (λ j k. f (suc j) (omega arith)))
size_same (more l z) [] e f = absurd (omega arith)
size_same (more l z) (b ∷ t) e f =
    more ((f 0 (omega arith)).1 l) (size_same z t (omega arith) (λ j k. f (suc j) (omega arith)))

-- one more command is in
size_more : {s : List ℕ} {n : ℕ} → Size s n → (k v : ℕ) → k < length s → get_or s k 0 < 32768 → 32768 ≤ v
    → Size (set s k v) (suc n)
size_more none k v i o h = absurd (omega arith)
size_more (less l z) zero v i o h = more h z
size_more (less l z) (suc k) v i o h = less l (size_more z k v (omega arith) o h)
size_more (more l z) zero v i o h = absurd (omega arith)
size_more (more l z) (suc k) v i o h = more l (size_more z k v (omega arith) o h)

-- a command put in

module _ {k : ℕ} {rows : List (List ℕ)} {s : List ℕ} (inside : k < 24) (m : Meeting rows s) where
  pub added_again : In s k → Added k rows s s
  added_again h = record { here = h; keeps = λ j l i. i; only = λ j l i. inr i; meeting = m }

  at_most : m.many ≤ 24
  at_most = omega (arith, size_most m.size, m.wide)

  module _ (t : Table rows) where
    pub lift_room : Both (λ h n. h + n < 65536) s (get_or rows k [])
    lift_room = record {
      many = m.wide;
      wide = t.wide k inside;
      holds = λ i l. omega (arith, m.most i l, at_most, t.small k i inside l);
    }

    -- the line added: the same commands are in
    module _ {u : List ℕ} (c : Changed ◌+◌ (get_or rows k []) s u) where
      lifted : (i : ℕ) → i < 24 → (get_or u i 0 ≤ m.many + 1) ⊎ In s i
      lifted i l = go (m.few i l)
        where
          go : (get_or s i 0 ≤ m.many) ⊎ In s i → (get_or u i 0 ≤ m.many + 1) ⊎ In s i
          go (inl h) = inl (omega (arith, c.each i l, t.small k i inside l))
          go (inr h) = inr h

      lifted_in : (i : ℕ) → i < 24 → In u i ↔ In s i
      lifted_in i l = (λ h. go h (lifted i l), λ h. omega (arith, c.each i l))
        where
          go : In u i → (get_or u i 0 ≤ m.many + 1) ⊎ In s i → In s i
          go h (inl o) = absurd (omega (arith, at_most))
          go h (inr o) = o

      module _ (outside : get_or s k 0 < 32768) where
        low : get_or u k 0 ≤ 25
        low = go (lifted k inside)
          where
            go : (get_or u k 0 ≤ m.many + 1) ⊎ In s k → get_or u k 0 ≤ 25
            go (inl h) = omega (arith, at_most)
            go (inr h) = absurd (omega arith)

        -- and command k + 1 marked as in

        pub mark_room : get_or u k 0 + 32768 < 65536
        mark_room = omega (arith, low)

        abbrev s' : List ℕ
        s' = set u k (get_or u k 0 + 32768)

        -- command k + 1, or another command
        data At (i : ℕ) : Type 0 where
          own : i ≡ k → get_or s' i 0 ≡ get_or u k 0 + 32768 → At i
          other : ¬ (i ≡ k) → get_or s' i 0 ≡ get_or u i 0 → At i

        at : (i : ℕ) → At i
        at i = go (ℕ_discrete i k)
          where
            go : Dec (i ≡ k) → At i
            go (yes e) = own e (rw e (get_or-set_same u k (get_or u k 0 + 32768) 0 (omega (arith, c.kept, m.wide))))
            go (no n) = other n (get_or-set_other u k i (get_or u k 0 + 32768) 0 n)

        marked : In s' k
        marked = omega (arith, get_or-set_same u k (get_or u k 0 + 32768) 0 (omega (arith, c.kept, m.wide)))

        keeps : (i : ℕ) → i < 24 → In s i → In s' i
        keeps i l h = go (at i)
          where
            go : At i → In s' i
            go (own e f) = omega arith
            go (other n f) = omega (arith, (lifted_in i l).1 h)

        only : (i : ℕ) → i < 24 → In s' i → (i ≡ k) ⊎ In s i
        only i l h = go (at i)
          where
            go : At i → (i ≡ k) ⊎ In s i
            go (own e f) = inl e
            go (other n f) = let o : In u i = omega arith in inr ((lifted_in i l).0 o)

        met_none : (i : ℕ) → i < 24 → get_or s' i 0 ≡ 0 → Clear (get_or rows i []) s'
        met_none i l z = go (at i)
          where
            go : At i → Clear (get_or rows i []) s'
            go (own e f) = absurd (omega arith)
            go (other n f) = λ j h a b. clear j h a (only j h b)
              where
                clear : (j : ℕ) → j < 24 → get_or (get_or rows i []) j 0 ≡ 1 → (j ≡ k) ⊎ In s j → ⊥
                clear j h a (inl e) =
                    let y : get_or (get_or rows i []) k 0 ≡ 1 = rw e at a in
                    omega (arith, c.each i l, t.mirrored i k l inside)
                clear j h a (inr o) = (m.tells i l).0 (omega (arith, c.each i l)) j h a o

        none_met : (i : ℕ) → i < 24 → Clear (get_or rows i []) s' → get_or s' i 0 ≡ 0
        none_met i l f = go (at i)
          where
            go : At i → get_or s' i 0 ≡ 0
            go (own e g) = absurd (in_unclear t s' k inside marked (rw e at f))
            go (other n g) =
                let z : get_or s i 0 ≡ 0 = (m.tells i l).1 (λ j h a b. f j h a (keeps j h b)) in
                let o : ¬ (get_or (get_or rows i []) k 0 ≡ 1) = λ y. f k inside y marked in
                omega (arith, c.each i l, t.mirrored i k l inside, t.small i k l inside)

        pub added_new : Added k rows s s'
        added_new = record {
          here = marked;
          keeps = keeps;
          only = only;
          meeting = record {
            wide = length-set u k (get_or u k 0 + 32768) ∙ c.kept ∙ m.wide;
            many = suc m.many;
            size = size_more (size_same m.size u c.kept (λ j l. lifted_in j (omega (arith, m.wide)))) k
                (get_or u k 0 + 32768) (omega (arith, c.kept, m.wide)) (omega (arith, low)) (omega arith);
            few = λ i l. few i l (at i);
            most = λ i l. most i l (at i);
            tells = λ i l. (met_none i l, none_met i l);
          };
        }
          where
            few : (i : ℕ) → i < 24 → At i → (get_or s' i 0 ≤ suc m.many) ⊎ In s' i
            few i l (own e f) = inr (omega arith)
            few i l (other n f) = go (lifted i l)
              where
                go : (get_or u i 0 ≤ m.many + 1) ⊎ In s i → (get_or s' i 0 ≤ suc m.many) ⊎ In s' i
                go (inl h) = inl (omega arith)
                go (inr h) = inr (keeps i l h)

            most : (i : ℕ) → i < 24 → At i → get_or s' i 0 ≤ 32768 + suc m.many
            most i l (own e f) = go (lifted k inside)
              where
                go : (get_or u k 0 ≤ m.many + 1) ⊎ In s k → get_or s' i 0 ≤ 32768 + suc m.many
                go (inl h) = omega arith
                go (inr h) = absurd (omega arith)
            most i l (other n f) = omega (arith, c.each i l, m.most i l, t.small k i inside l)
