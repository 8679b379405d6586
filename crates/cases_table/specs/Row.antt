-- Where a question's row keeps each part.
use Rattle.std.specs.Prelude.{ℕ}
use Rattle.cases_table.specs.declared.Field.{Field}
use Rattle.cases_table.specs.declared.Field.TheVariants.{W, U, Area, SecondArea, Name, Catalogue, V}

-- the place of its size
abbrev pub index_of : Field → ℕ
index_of W = 0
index_of U = 1
index_of Area = 2
index_of SecondArea = 3
index_of Name = 4
index_of Catalogue = 5
index_of V = 6

-- the place of its first byte
abbrev pub start_of : Field → ℕ
start_of W = 0
start_of U = 128
start_of Area = 256
start_of SecondArea = 384
start_of Name = 512
start_of Catalogue = 640
start_of V = 3840
