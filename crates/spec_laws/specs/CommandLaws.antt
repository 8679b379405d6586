-- The bytes that are commands or undos: how they stand to N, to fillers, to their undo and to their command.
use Rattle.std.specs.Prelude.{ℕ, ◌+◌, ◌-◌, ◌≤◌, ◌<◌, ◌≡◌, true, false, ◌⊎◌, eqb}
use Rattle.std.proofs.Common.{sym, ◌∙◌, ap, inl, inr, arith, mod-eq_of_lt, ne_eqb}
use Rattle.std.proofs.Math.Bool.{or-true}
use Rattle.std.proofs.lemmas.Bool.{false≢true}
use Rattle.std.proofs.Math.Nat.{add-mod_right}
use Rattle.theory_words.specs.BoolLaws.{true_same, or_either}
use Rattle.spec.specs.Catalogue.{within}
use Rattle.spec.specs.Plan.{is_command, passes}
use Rattle.spec.specs.Byte.{command_of, undone}
use Rattle.spec.specs.AlphabetLaws.{undone_does, undone_undoes, undone-undone, Kind, does, undoes, neither, kind}
use Rattle.spec.specs.AlphabetLaws.{Side, under, amid, over, side, within_in, within_under, within_over}

pub within-true : (low high b : ℕ) → within low high b ≡ true → (low ≤ b) × (b ≤ high)
within-true low high b e = go (side low high b)
  where
    go : Side low high b → (low ≤ b) × (b ≤ high)
    go (under l) = absurd (false≢true (sym (within_under low high b l) ∙ e))
    go (amid l h) = (l, h)
    go (over h) = absurd (false≢true (sym (within_over low high b h) ∙ e))

-- a command or undo: 1 to N, or 129 to 128 + N
pub data Said (n b : ℕ) : Type 0 where
  done : 1 ≤ b → b ≤ n → Said n b
  back : 129 ≤ b → b ≤ 128 + n → Said n b

pub said : (n b : ℕ) → is_command n b ≡ true → Said n b
unfolding is_command
said n b e = go (or_either (within 1 n b) (within 129 (128 + n) b) e)
  where
    go : (within 1 n b ≡ true) ⊎ (within 129 (128 + n) b ≡ true) → Said n b
    go (inl h) = let (l, k) = within-true 1 n b h in done l k
    go (inr h) = let (l, k) = within-true 129 (128 + n) b h in back l k

pub said_command : {n b : ℕ} → Said n b → is_command n b ≡ true
unfolding is_command
said_command {n} {b} (done l h) = rw (within_in 1 n b l h)
said_command {n} {b} (back l h) = rw (within_in 129 (128 + n) b l h) (or-true (within 1 n b))

pub command_nonzero : (n b : ℕ) → is_command n b ≡ true → eqb b 0 ≡ false
command_nonzero n b e = go (said n b e)
  where
    go : Said n b → eqb b 0 ≡ false
    go (done l h) = ne_eqb b 0 (λ z. omega arith)
    go (back l h) = ne_eqb b 0 (λ z. omega arith)

pub command_passes : (n b : ℕ) → is_command n b ≡ true → passes n b ≡ true
unfolding passes
command_passes n b e = rw e (or-true (eqb b 0))

-- what passes is a filler, or a command or undo
pub passes_cases : (n b : ℕ) → passes n b ≡ true → (eqb b 0 ≡ true) ⊎ (is_command n b ≡ true)
unfolding passes
passes_cases n b e = or_either (eqb b 0) (is_command n b) e

pub passes_command : (n b : ℕ) → passes n b ≡ true → eqb b 0 ≡ false → is_command n b ≡ true
unfolding passes
passes_command n b e z = rw z at e

said_undone : {n b : ℕ} → Kind b → Said n b → Said n (undone b)
said_undone (does l h e) (done i k) = rw e (back (omega arith) (omega arith))
said_undone (does l h e) (back i k) = absurd (omega arith)
said_undone (undoes l h e) (done i k) = rw e (done (omega arith) (omega arith))
said_undone (undoes l h e) (back i k) = rw e (done (omega arith) (omega arith))
said_undone (neither e) s = rw e s

pub is_command-undone : (n b : ℕ) → is_command n (undone b) ≡ is_command n b
is_command-undone n b = true_same _ _ (λ e. ap (is_command n) (sym (undone-undone b)) ∙ turn (undone b) e) (turn b)
  where
    turn : (a : ℕ) → is_command n a ≡ true → is_command n (undone a) ≡ true
    turn a e = said_command (said_undone (kind a) (said n a e))

command_low : (b : ℕ) → b < 128 → command_of b ≡ b
command_low b h = mod-eq_of_lt h

command_high : (b : ℕ) → 128 ≤ b → b < 256 → command_of b ≡ b - 128
command_high b l h =
    let e : b ≡ (b - 128) + 128 = omega arith in
    ap command_of e ∙ add-mod_right (b - 128) 128 ∙ command_low (b - 128) (omega arith)

-- a command k or its undo 128 + k, with 1 ≤ k ≤ N
pub data Spelled (n b : ℕ) : Type 0 where
  plain : 1 ≤ b → b ≤ n → command_of b ≡ b → Spelled n b
  undo : 1 ≤ command_of b → command_of b ≤ n → b ≡ 128 + command_of b → Spelled n b

pub spelled : (n b : ℕ) → n ≤ 127 → is_command n b ≡ true → Spelled n b
spelled n b m e = go (said n b e)
  where
    go : Said n b → Spelled n b
    go (done l h) = plain l h (command_low b (omega arith))
    go (back l h) =
        let k = command_high b (omega arith) (omega arith) in
        undo (rw k (omega arith)) (rw k (omega arith)) (rw k (omega arith))

pub command_range : (n b : ℕ) → n ≤ 127 → is_command n b ≡ true → (1 ≤ command_of b) × (command_of b ≤ n)
command_range n b m e = go (spelled n b m e)
  where
    go : Spelled n b → (1 ≤ command_of b) × (command_of b ≤ n)
    go (plain l h k) = (rw k l, rw k h)
    go (undo l h k) = (l, h)

-- a command differs from its undo
pub command_differs : (n b : ℕ) → n ≤ 127 → is_command n b ≡ true → ¬ (undone b ≡ b)
command_differs n b m e u = go (said n b e)
  where
    go : Said n b → ⊥
    go (done l h) = let k = undone_does b l (omega arith) in omega arith
    go (back l h) = let k = undone_undoes b l (omega arith) in omega arith
