-- What the framing of an input tells: where the counts of its two plans stand, or nothing where it is badly framed.
use Rattle.std.specs.Prelude.{ℕ, Bool, true, false, List, Option, Some, None}
use Rattle.spec.specs.Framing.{catalogue_length, second_place, well_framed}
use Rattle.loops_framing.specs.declared.Places.{Places}

abbrev pub frame_step : Bool → List ℕ → Option Places
frame_step true s = Some (record { first = catalogue_length s; second = second_place s })
frame_step false s = None

abbrev pub frame : List ℕ → Option Places
frame s = frame_step (well_framed s) s
