-- Where a sequence ends: at the text's end or before a closing bracket. Where a number ends: no digit follows.
use Rattle.std.specs.Prelude.{List, [], ◌∷◌}
use Rattle.spec.specs.Notation.{Token, blank, opening, closing, minus, digit, other}

abbrev pub Ended : List Token → Type 0
Ended [] = Unit {0}
Ended (blank ∷ s) = ⊥
Ended (opening ∷ s) = ⊥
Ended (closing ∷ s) = Unit {0}
Ended (minus ∷ s) = ⊥
Ended (digit d ∷ s) = ⊥
Ended (other ∷ s) = ⊥

abbrev pub NoDigit : List Token → Type 0
NoDigit [] = Unit {0}
NoDigit (blank ∷ s) = Unit {0}
NoDigit (opening ∷ s) = Unit {0}
NoDigit (closing ∷ s) = Unit {0}
NoDigit (minus ∷ s) = Unit {0}
NoDigit (digit d ∷ s) = ⊥
NoDigit (other ∷ s) = Unit {0}
