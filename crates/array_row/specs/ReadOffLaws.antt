-- The loop that reads stacks off into an area: each time the letter that the first ready row shows is written, and
-- taken off. Neither what the stacks are nor when a row is ready matters, only that they show the letters that can
-- come first.
use Rattle.std.specs.Prelude.{ℕ, ◌+◌, ◌-◌, ◌<◌, ◌≤◌, ◌≡◌, set}
use Rattle.std.proofs.Math.Path.{refl, sym, ap}
use Rattle.std.proofs.Common.{◌∙◌, arith, take-append-drop}
use mathlib.Core.List.{List, [], ◌∷◌, ◌++◌}
use Rattle.std.proofs.Math.Decide.{dec_lt}
use Rattle.std.proofs.Math.ListN.{length, take, drop}
use Rattle.std.proofs.Math.Seq.{length-take-le}
use Rattle.theory_words.specs.All.{All, all_pick}
use Rattle.theory_words.specs.Normal.{lex}
use Rattle.theory_words.specs.NormalLaws.{Least, lex_pick}
use Rattle.theory_words.specs.Trace.{Pick, First}
use Rattle.theory_words.specs.TraceLaws.{first-none, pick_length}
use Rattle.spec.specs.Byte.{command_of}
use Rattle.spec.specs.Letters.{alphabet}
use Rattle.input_plan.specs.Lettered.{Lettered}
use Rattle.array_counts.specs.First.{FirstWith}
use Rattle.array_row.specs.Area.{ReadOff}
use Rattle.array_row.specs.WritingLaws.{Writing, writing_start, writing_end, writing_fits, writing_again}

-- the row of each letter that can come first in y is ready, and a row that is ready shows such a letter
pub record Shows (c : List ℕ) (Ready : ℕ → Type 0) (letter : ℕ → ℕ) (y : List ℕ) : Type 0 where
  pub letters : All Lettered y
  pub shown : (k : ℕ) → k < 24 → Ready k → (command_of (letter k) ≡ k + 1) × First (alphabet c) (letter k) y
  pub ready : (k : ℕ) → k < 24 → (d : ℕ) → First (alphabet c) d y → command_of d ≡ k + 1 → Ready k

module _ {c : List ℕ} {Ready : ℕ → Type 0} {letter : ℕ → ℕ} {y : List ℕ} (s : Shows c Ready letter y) {k : ℕ}
    (f : FirstWith Ready k) where
  -- the first row that is ready has the smallest command of all that can come first
  first_least : (d : ℕ) → First (alphabet c) d y → k + 1 ≤ command_of d
  first_least d o = go (dec_lt (command_of d - 1) k)
    where
      t : Lettered d
      t = (all_pick (alphabet c) Lettered o.1 s.letters).0

      go : Dec (command_of d - 1 < k) → k + 1 ≤ command_of d
      go (yes h) = absurd (f.before (command_of d - 1) h
          (s.ready (command_of d - 1) (omega (arith, t)) d o (omega (arith, t.0))))
      go (no h) = omega (arith, t.0)

  -- where no row is ready no letter is left
  none_left : 24 ≤ k → y ≡ []
  none_left h = first-none (alphabet c) y (λ d o.
      let t : Lettered d = (all_pick (alphabet c) Lettered o.1 s.letters).0 in
      omega (arith, first_least d o, t.1))

-- g are the letters of y in order, and nothing is left
pub record InOrder (c y g z : List ℕ) : Type 0 where
  pub letters : lex (alphabet c) (length y) y ≡ g
  pub none : z ≡ []

-- the first l letters of x, in order, are written, and the stacks hold the word y that is left
abbrev pub Reading : (List ℕ → Type 0) → (c x before area : List ℕ) → ℕ → List ℕ → Type 0
Reading Holds c = Writing Holds (InOrder c) 1

pub reading_start : {Holds : List ℕ → Type 0} {c x area : List ℕ} → Holds x → length x ≤ length area
    → Reading Holds c x area area 0 x
reading_start h l = writing_start h (omega arith)

module _ {Holds : List ℕ → Type 0} {c x before area : List ℕ} {l : ℕ} {y : List ℕ}
    (g : Reading Holds c x before area l y) {Ready : ℕ → Type 0} {letter : ℕ → ℕ} (s : Shows c Ready letter y) {k : ℕ}
    (f : FirstWith Ready k) where
  pub reading_end : 24 ≤ k → ReadOff c x before area l
  unfolding lex
  reading_end h =
      let e : lex (alphabet c) (length y) y ≡ []
      = ap (λ (w : List ℕ). lex (alphabet c) (length w) w) (none_left s f h) in
      let t : lex (alphabet c) (length x) x ≡ take l area
      = (writing_end g (record { letters = e; none = refl })).letters in
      record {
        ends = omega (arith, ap length t, length-take-le l area (omega (arith, g.long, g.room, g.count)));
        bytes = sym (take-append-drop l area) ∙ ap (λ (s : List ℕ). s ++ drop l area) (sym t)
            ∙ ap (λ (s : List ℕ). lex (alphabet c) (length x) x ++ s) g.kept;
      }

  module _ (h : k < 24) where
    pub reading_fits : l < length area
    reading_fits =
        let (m, (r, p)) = s.shown k h (f.found h) in
        writing_fits g (omega (arith, pick_length (alphabet c) p))

    -- the letter is written, and the stacks now hold what it leaves
    pub reading_again : (Holds' : List ℕ → Type 0)
        → ((r : List ℕ) → command_of (letter k) ≡ k + 1 → Pick (alphabet c) (letter k) y r → Holds' r)
        → (r : List ℕ) × Reading Holds' c x before (set area l (letter k)) (l + 1) r
    reading_again Holds' off =
        let b : ℕ = letter k in
        let (m, (r, p)) = s.shown k h (f.found h) in
        let q : Least (alphabet c) b y = λ d o. omega (arith, m, first_least s f d o) in (
          r,
          writing_again g b (off r m p) (omega (arith, pick_length (alphabet c) p)) reading_fits
              (λ u z e. record {
                letters = lex_pick (alphabet c) p q ∙ ap (λ (v : List ℕ). b ∷ v) e.letters;
                none = e.none;
              }),
        )
