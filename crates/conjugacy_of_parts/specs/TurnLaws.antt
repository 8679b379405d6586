-- From one ring to another: what the search for a rotation tells, and what is appended.
use Prim.Native.Nat.{ℕ, ◌≤◌}
use native.Mathlib.Omega.{arith}
use Rattle.std.specs.Prelude.{◌≡◌, refl, Bool, true, false, ◌&&◌, eqb, Option, None, Some}
use Rattle.std.proofs.Math.Path.{sym, ap}
use Rattle.std.proofs.Common.{◌∙◌, take-take}
use mathlib.Core.List.{List, [], ◌++◌, append_assoc}
use Rattle.std.proofs.Math.Option.{none, some}
use Rattle.std.proofs.Math.ListN.{length, take, length-append}
use Rattle.std.proofs.Math.Seq.{length-take-le, take_at}
use Rattle.theory_words.specs.GroupLaws.{undo-append, undo-undo, undo_length}
use Rattle.spec.specs.Byte.{undone, undo_of}
use Rattle.spec.specs.Letters.{alphabet}
use Rattle.theory_conjugacy.specs.Rotation.{rotation}
use Rattle.theory_conjugacy.specs.RotationLaws.{rotation-some, rotation_rotated}
use Rattle.theory_conjugacy.specs.Decision.{found?, rotated?}
use Rattle.theory_conjugacy.specs.LeadIn.{place}
use Rattle.theory_conjugacy.specs.LeadInLaws.{rotated_test}
use Rattle.spec.specs.Answers.{told_option}
use Rattle.array_row.specs.Row.{Appended, Undone}
use Rattle.array_row.specs.RowLaws.{appended_take, appended_length}
use Rattle.array_row.specs.UndoLaws.{undone_take}
use Rattle.conjugacy_of_parts.specs.Parts.{RingsRoom, RingsJoined}

and-false : (t : Bool) → (t && false) ≡ false
and-false true = refl
and-false false = refl

module _ (c ring other : List ℕ) {s : Option ℕ} (t : told_option s ≡ rotation (alphabet c) ring other) where
  pub nowhere_apart : s ≡ None → rotated? (alphabet c) ring other ≡ false
  unfolding rotated? found?
  nowhere_apart e =
      let f : rotation (alphabet c) ring other ≡ none = sym t ∙ ap told_option e in
      rw f (and-false (eqb (length ring) (length other)))

  pub start_found : {i : ℕ} → s ≡ Some i → rotation (alphabet c) ring other ≡ some i
  start_found e = sym t ∙ ap told_option e

module _ (c ring other : List ℕ) {i : ℕ} (f : rotation (alphabet c) ring other ≡ some i) where
  pub start_within : i ≤ length ring
  start_within = omega (arith, (rotation-some (alphabet c) ring other f).0)

  pub start_count : i ≡ length (take i ring)
  start_count = sym (length-take-le i ring start_within)

  -- the row's end holds it, undone, behind the letters cycled
  pub start_end : {row mid : List ℕ} {from at end : ℕ} → RingsRoom ring row from at
      → Appended row at (undo_of (take i ring)) mid end → end ≤ length row
  start_end t a = omega (arith, t.room, a.ends, undo_length undone (take i ring) [], start_count, start_within)

  -- the ring up to there stands, undone, behind the letters cycled, and all of it is undone
  pub rings_joined : {cycled row mid after : List ℕ} {from at end : ℕ}
      → Appended row at (undo_of (take i ring)) mid end → Undone mid from end after
      → take at row ≡ take from row ++ cycled → from ≤ at → end ≤ length row
      → RingsJoined c ring other cycled row from after end
  unfolding place
  rings_joined {cycled} {row} {mid} {after} {from} {at} {end} a b t o l =
      let p : place (rotation (alphabet c) ring other) ≡ i = ap place f in
      let r = take i ring in
      let z : List ℕ = cycled ++ undo_of r in
      let e : at ≤ end = omega (arith, a.ends) in
      let n : length (take from row) ≡ from = length-take-le from row (omega arith) in
      let w : take end mid ≡ take from row ++ z = appended_take a l
      ∙ ap (λ (y : List ℕ). y ++ undo_of r) t ∙ append_assoc (take from row) cycled (undo_of r) in
      let k : take from mid ≡ take from row
      = sym (take-take from end mid (omega arith)) ∙ ap (take from) w ∙ take_at (take from row) z from n in
      let d : undo_of z ≡ r ++ undo_of cycled
      = undo-append undone cycled (undo_of r) [] ∙ undo-undo (alphabet c) r [] (undo_of cycled) in
      record {
        joined = rotated_test (alphabet c) ring other (rotation_rotated (alphabet c) ring other f);
        written = rw p (undone_take b z (w ∙ ap (λ (y : List ℕ). y ++ z) (sym k))
            (omega (arith, appended_length a l)) ∙ ap (λ (y : List ℕ). y ++ undo_of z) k
            ∙ ap (λ (y : List ℕ). take from row ++ y) d);
        ends = rw p (omega (
          arith,
          n,
          ap length w,
          length-take-le end mid (omega (arith, appended_length a l)),
          length-append (take from row) z,
          undo_length undone z [],
          ap length d,
        ));
      }
