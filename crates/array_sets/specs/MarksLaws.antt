-- Laws of sets of commands that are also given as lists, and of the lines of the conflict table.
use Rattle.std.specs.Prelude.{ℕ, ◌+◌, ◌-◌, ◌<◌, ◌≤◌, ◌≡◌, ◌⊎◌, Bool, ◌||◌}
use native.Mathlib.Omega.{arith}
use Rattle.std.proofs.Math.Path.{refl}
use Rattle.std.proofs.Common.{sym, ◌∙◌, ap, inl, inr, true≢false}
use Rattle.std.proofs.Math.Bool.{true, false}
use mathlib.Core.List.{List, [], ◌∷◌, Memᴰ}
use Rattle.std.proofs.Math.ListN.{get_or}
use Rattle.theory_words.specs.All.{All, all_map}
use Rattle.theory_words.specs.Normal.{meets}
use Rattle.spec.specs.Conflict.{conflict}
use Rattle.input_chains.specs.Conflicts.{Conflicts}
use Rattle.input_chains.specs.ConflictsLaws.{line_tells}
use Rattle.spec.specs.Answers.{yes_no}
use Rattle.input_chains.specs.MarkingLaws.{yes_low}
use Rattle.spec.specs.AlphabetLaws.{conflict_refl, conflict_sym}
use Rattle.spec.specs.Letters.{alphabet}
use Rattle.array_sets.specs.Sets.{In, Clear, Table, Has, Marks, Added, empty}
use Rattle.array_sets.specs.SetsLaws.{none_in}

pub marks_none : Marks empty []
marks_none = record { held = tt; only = λ j l e. absurd (none_in j e) }

pub marks_add : (k : ℕ) → 1 ≤ k → k ≤ 24 → {rows : List (List ℕ)} {s s' R : List ℕ} → Added (k - 1) rows s s'
    → Marks s R → Marks s' (k ∷ R)
marks_add k low high {s = s} {s'} {R} a m = record {
  held = ((low, high, a.here), all_map more R m.held);
  only = λ j l h. only j l (a.only j l h);
}
  where
    more : (b : ℕ) → Has s b → Has s' b
    more b (l, h, i) = (l, h, a.keeps (b - 1) (omega arith) i)

    only : (j : ℕ) → j < 24 → (j ≡ k - 1) ⊎ In s j → Memᴰ (j + 1) (k ∷ R)
    only j l (inl e) = let h : j + 1 ≡ k = omega arith in Memᴰ.head h
    only j l (inr h) = Memᴰ.tail (m.only j l h)

yes_one : (t : Bool) → yes_no t ≡ 1 → t ≡ true
yes_one true e = refl
yes_one false e = absurd (omega arith)

-- a catalogue's table of conflicts, and the line of a command in it
module _ {c : List ℕ} {rows : List (List ℕ)} (table : Conflicts c rows) where
  pub conflicts_table : Table rows
  conflicts_table = record {
    wide = table.wide;
    small = λ i j l h. rw (table.tells i j l h) (yes_low (conflict c (i + 1) (j + 1)));
    own = λ i l. table.tells i i l l ∙ ap yes_no (conflict_refl c (i + 1));
    mirrored = λ i j l h.
        table.tells i j l h ∙ ap yes_no (conflict_sym c (i + 1) (j + 1)) ∙ sym (table.tells j i h l);
  }

  module _ (k : ℕ) (low : 1 ≤ k) (high : k ≤ 24) where
    tells : (j : ℕ) → j < 24 → get_or (get_or rows (k - 1) []) j 0 ≡ yes_no (conflict c k (j + 1))
    tells = line_tells table k low high

    pub clear_meets : {s R : List ℕ} → Marks s R → Clear (get_or rows (k - 1) []) s → meets (alphabet c) k R ≡ false
    unfolding meets
    clear_meets {s} {R} m f = go R m.held
      where
        step : (j : ℕ) (R : List ℕ) (t : Bool) → conflict c k j ≡ t → 1 ≤ j → j ≤ 24 → In s (j - 1)
            → meets (alphabet c) k R ≡ false → (t || meets (alphabet c) k R) ≡ false
        step j R true e l h o ih =
            let i : j - 1 + 1 ≡ j = omega arith in
            let b : get_or (get_or rows (k - 1) []) (j - 1) 0 ≡ 1 = tells (j - 1) (omega arith) ∙ rw (i, e) refl in
            absurd (f (j - 1) (omega arith) b o)
        step j R false e l h o ih = ih

        go : (R : List ℕ) → All (Has s) R → meets (alphabet c) k R ≡ false
        go [] h = refl
        go (j ∷ R) ((l, h, o), hs) = step j R (conflict c k j) refl l h o (go R hs)

    meets_held : {j : ℕ} {R : List ℕ} → Memᴰ j R → conflict c k j ≡ true → meets (alphabet c) k R ≡ true
    unfolding meets
    meets_held {R = i ∷ R} (Memᴰ.head e) h = let b : conflict c k i ≡ true = rw e at h in rw b refl
    meets_held {R = i ∷ R} (Memᴰ.tail m) h = go (conflict c k i) (meets_held m h)
      where
        go : (t : Bool) → meets (alphabet c) k R ≡ true → (t || meets (alphabet c) k R) ≡ true
        go true e = refl
        go false e = e
    meets_held {R = []} m h = elim m [ ]

    meets_clear : {s R : List ℕ} → Marks s R → meets (alphabet c) k R ≡ false → Clear (get_or rows (k - 1) []) s
    meets_clear m e j l a b =
        true≢false (sym (meets_held (m.only j l b) (yes_one (conflict c k (j + 1)) (sym (tells j l) ∙ a))) ∙ e)

    pub unclear_meets : {s R : List ℕ} → Marks s R → (Clear (get_or rows (k - 1) []) s → ⊥)
        → meets (alphabet c) k R ≡ true
    unclear_meets {R = R} m n = go (meets (alphabet c) k R) refl
      where
        go : (t : Bool) → meets (alphabet c) k R ≡ t → t ≡ true
        go true e = refl
        go false e = absurd (n (meets_clear m e))
