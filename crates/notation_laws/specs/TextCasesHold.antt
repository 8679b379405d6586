-- For the reader, and cited by no other file: the table of texts holds, the definitions of the calls on texts compute
-- each row.
use Rattle.std.specs.Prelude.{refl}
use Rattle.spec.specs.Table.{first_of}
use Rattle.spec.specs.Catalogue.{ends, follow, stands}
use Rattle.spec.specs.Byte.{undone}
use Rattle.spec.specs.Notation.{token_of, repeated, plan_of, size_of, first_above, first_deep}
use Rattle.spec.specs.Scanner.{run}
use Rattle.spec.specs.TextCases.{Every, empty_texts, plans, wrong_texts, refused_texts, small_areas, TextCases}

infixr 20 ◌&◌
◌&◌ : {A B : Type 0} → A → B → A × B
a & b = (a, b)

empty_texts_lem : Every empty_texts
unfolding first_of ends follow stands undone token_of repeated plan_of size_of first_above first_deep run
empty_texts_lem =
    (refl, refl, refl)
    & (refl, refl, refl)
    & (refl, refl, refl)
    & (refl, refl, refl)
    & (refl, refl, refl)
    & (refl, refl, refl)
    & (refl, refl, refl)
    & (refl, refl, refl)
    & (refl, refl, refl)
    & (refl, refl, refl)
    & tt

plans_written : Every plans
unfolding first_of ends follow stands undone token_of repeated plan_of size_of first_above first_deep run
plans_written =
    (refl, refl, refl)
    & (refl, refl, refl)
    & (refl, refl, refl)
    & (refl, refl, refl)
    & (refl, refl, refl)
    & (refl, refl, refl)
    & (refl, refl, refl)
    & (refl, refl, refl)
    & (refl, refl, refl)
    & (refl, refl, refl)
    & (refl, refl, refl)
    & (refl, refl, refl)
    & (refl, refl, refl)
    & (refl, refl, refl)
    & tt

wrong_texts_lem : Every wrong_texts
unfolding first_of ends follow stands undone token_of repeated plan_of size_of first_above first_deep run
wrong_texts_lem =
    (refl, (λ area. refl), (λ area. refl))
    & (refl, (λ area. refl), (λ area. refl))
    & (refl, (λ area. refl), (λ area. refl))
    & (refl, (λ area. refl), (λ area. refl))
    & (refl, (λ area. refl), (λ area. refl))
    & (refl, (λ area. refl), (λ area. refl))
    & (refl, (λ area. refl), (λ area. refl))
    & (refl, (λ area. refl), (λ area. refl))
    & (refl, (λ area. refl), (λ area. refl))
    & (refl, (λ area. refl), (λ area. refl))
    & (refl, (λ area. refl), (λ area. refl))
    & (refl, (λ area. refl), (λ area. refl))
    & (refl, (λ area. refl), (λ area. refl))
    & (refl, (λ area. refl), (λ area. refl))
    & (refl, (λ area. refl), (λ area. refl))
    & (refl, (λ area. refl), (λ area. refl))
    & (refl, (λ area. refl), (λ area. refl))
    & (refl, (λ area. refl), (λ area. refl))
    & (refl, (λ area. refl), (λ area. refl))
    & (refl, (λ area. refl), (λ area. refl))
    & (refl, (λ area. refl), (λ area. refl))
    & (refl, (λ area. refl), (λ area. refl))
    & (refl, (λ area. refl), (λ area. refl))
    & (refl, (λ area. refl), (λ area. refl))
    & (refl, (λ area. refl), (λ area. refl))
    & (refl, (λ area. refl), (λ area. refl))
    & (refl, (λ area. refl), (λ area. refl))
    & (refl, (λ area. refl), (λ area. refl))
    & (refl, (λ area. refl), (λ area. refl))
    & tt

refused_texts_lem : Every refused_texts
unfolding first_of ends follow stands undone token_of repeated plan_of size_of first_above first_deep run
refused_texts_lem =
    (refl, (λ area. refl), (λ area. refl))
    & (refl, (λ area. refl), (λ area. refl))
    & (refl, (λ area. refl), (λ area. refl))
    & (refl, (λ area. refl), (λ area. refl))
    & (refl, (λ area. refl), (λ area. refl))
    & (refl, (λ area. refl), (λ area. refl))
    & (refl, (λ area. refl), (λ area. refl))
    & (refl, (λ area. refl), (λ area. refl))
    & (refl, (λ area. refl), (λ area. refl))
    & (refl, (λ area. refl), (λ area. refl))
    & (refl, (λ area. refl), (λ area. refl))
    & (refl, (λ area. refl), (λ area. refl))
    & (refl, (λ area. refl), (λ area. refl))
    & (refl, (λ area. refl), (λ area. refl))
    & (refl, (λ area. refl), (λ area. refl))
    & tt

small_areas_lem : Every small_areas
unfolding first_of ends follow stands undone token_of repeated plan_of size_of first_above first_deep run
small_areas_lem =
    (refl, refl, refl)
    & (refl, refl, refl)
    & (refl, refl, refl)
    & (refl, refl, refl)
    & tt

pub texts_hold : TextCases
texts_hold = (empty_texts_lem, plans_written, wrong_texts_lem, refused_texts_lem, small_areas_lem)
