-- The two editions of the catalogue: a catalogue of the first written in the second, and what it means that two
-- catalogues, of whichever editions, say the same.
use Rattle.std.specs.Prelude.{ℕ, ◌+◌, ◌≡◌, List, [], ◌∷◌, ◌++◌, ◌↔◌, take, drop}
use Rattle.spec.specs.Table.{NoneHolds, Answer}
use Rattle.spec.specs.Catalogue.{commands, catalogue_lines}
use Rattle.spec.specs.Conflict.{Names}
use Rattle.spec.specs.Answers.{DecidedLoops}
use Rattle.spec.specs.Calls.{catalogue_answer, catalogue_table, normal_form_answer, normal_form_area, paired_answer}
use Rattle.spec.specs.Calls.{paired_area, paired_numbers, core_answer, core_area, equal_answer}
use Rattle.spec.specs.Slots.{slots_answer, slots_area, slots_numbers}
use Rattle.spec.specs.Precedence.{precedence_answer}
use Rattle.spec.specs.Loops.{Looped, check_answer, check_area0, check_area1}
use Rattle.spec.specs.Fault.{fault_answer}
use Rattle.spec.specs.WriteOut.{text_fault, write_out_answer, write_out_area}
use Rattle.spec.specs.Program.{loops_verdict}

-- heads, each in two bytes
unfoldable pub wide_heads : List ℕ → List ℕ
wide_heads [] = []
wide_heads (h ∷ hs) = h ∷ 0 ∷ wide_heads hs

-- records, each with its next index in two bytes; what is less than a record stays
unfoldable pub wide_records : List ℕ → List ℕ
wide_records [] = []
wide_records (k ∷ []) = k ∷ []
wide_records (k ∷ i ∷ rs) = k ∷ i ∷ 0 ∷ wide_records rs

-- a catalogue of the first edition, written in the second; what is too short for N and R stays
abbrev pub rewritten : List ℕ → List ℕ
rewritten [] = []
rewritten (n ∷ []) = n ∷ []
rewritten (n ∷ r ∷ c) = (128 + n) ∷ r ∷ 0 ∷ wide_heads (take n c) ++ wide_records (drop n c)

-- two catalogues that pass, have the same N and name the same pairs
pub record SayTheSame (c d : List ℕ) : Type 0 where
  pub passes : NoneHolds (catalogue_lines c)
  pub passes_too : NoneHolds (catalogue_lines d)
  pub commands : commands c ≡ commands d
  pub pairs : (a b : ℕ) → Names c a b ↔ Names d a b

-- every call is promised the same answer under either, and the same in what was lent to it
pub record SameAnswers (c d : List ℕ) : Type 0 where
  pub catalogue : catalogue_answer c ≡ catalogue_answer d
  pub table : (t : List (List ℕ)) → catalogue_table c t ≡ catalogue_table d t
  pub form : (v area : List ℕ) → (normal_form_answer c v area ≡ normal_form_answer d v area)
      × (normal_form_area c v area ≡ normal_form_area d v area)
  pub paired : (v area ns : List ℕ) → (paired_answer c v area ns ≡ paired_answer d v area ns)
      × (paired_area c v area ns ≡ paired_area d v area ns) × (paired_numbers c v area ns ≡ paired_numbers d v area ns)
  pub slots : (v area ns : List ℕ) → (slots_answer c v area ns ≡ slots_answer d v area ns)
      × (slots_area c v area ns ≡ slots_area d v area ns) × (slots_numbers c v area ns ≡ slots_numbers d v area ns)
  pub precedence : (v ns : List ℕ) → precedence_answer c v ns ≡ precedence_answer d v ns
  pub core : (v area : List ℕ) → (core_answer c v area ≡ core_answer d v area) × (core_area c v area ≡ core_area d v area)
  pub equal : (v w : List ℕ) → equal_answer c v w ≡ equal_answer d v w
  pub loops : (v w area after : List ℕ) (a : Answer DecidedLoops)
      → Looped c v w area a after ↔ Looped d v w area a after
  pub check : (v w u area0 area1 : List ℕ) → (check_answer c v w u area0 area1 ≡ check_answer d v w u area0 area1)
      × (check_area0 c v w u area0 area1 ≡ check_area0 d v w u area0 area1)
      × (check_area1 c v w u area0 area1 ≡ check_area1 d v w u area0 area1)
  pub fault : (v w u : List ℕ) → fault_answer c v w u ≡ fault_answer d v w u
  pub write_out : (s area : List ℕ) → (write_out_answer c s area ≡ write_out_answer d s area)
      × (write_out_area c s area ≡ write_out_area d s area)
  pub fault_of_text : (s : List ℕ) → text_fault c s ≡ text_fault d s
  pub program : (v w : List ℕ) → loops_verdict c v w ≡ loops_verdict d v w
