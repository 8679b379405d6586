-- From bytes to words: fillers have no effect, so a plan's word is its other bytes. The alphabet of named pairs is the
-- numbers, each with its undo and its command, and two letters are dependent if their commands conflict.
use Rattle.std.specs.Prelude.{ℕ, Bool, not, List, eqb}
use Rattle.std.proofs.Math.Decide.{ℕ_discrete}
use Rattle.theory_words.specs.Alphabet.{Alphabet}
use Rattle.theory_words.specs.Filter.{filter}
use Rattle.theory_words.specs.Normal.{nf}
use Rattle.spec.specs.Conflict.{names, conflict_by}
use Rattle.spec.specs.AlphabetLaws.{by_refl, by_sym, undone-undone, command_undone}
use Rattle.spec.specs.Byte.{command_of, undone}

-- the bytes that are no fillers
unfoldable pub letters : List ℕ → List ℕ
letters v = filter (λ b. not (eqb b 0)) v

-- the alphabet of named pairs; the laws hold for every number
abbrev pub alphabet_by : (ℕ → ℕ → Bool) → Alphabet
alphabet_by p = record {
  Letter = ℕ;
  same = ℕ_discrete;
  inv = undone;
  cmd = command_of;
  conf = conflict_by p;
  inv-inv = undone-undone;
  cmd-inv = command_undone;
  conf_refl = by_refl p;
  conf_sym = by_sym p;
}

-- the alphabet of a catalogue is that of the pairs it names
abbrev pub alphabet : List ℕ → Alphabet
alphabet c = alphabet_by (names c)

-- the normal form of a plan: that of its word
unfoldable pub normal_form : List ℕ → List ℕ → List ℕ
normal_form c v = nf (alphabet c) (letters v)
