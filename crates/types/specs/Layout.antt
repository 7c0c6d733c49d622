-- Where the cells of a type table lie: this crate's own business. With N for the room for types, a record has four cells (kind, p, q, and
-- its link: the record before it in its chain), N elements stand behind the N records, and the last records of N chains behind these.
use Rattle.std.specs.Prelude.{List, ℕ, ◌+◌, ◌*◌, ◌/◌, length, get_or}

-- how many types the cells have room for, and as many elements and chains
unfoldable pub capacity : List ℕ → ℕ
capacity cs = length cs / 6

-- ---- record i

abbrev pub kind_cell : ℕ → ℕ
kind_cell i = 4 * i

abbrev pub first_cell : ℕ → ℕ
first_cell i = 4 * i + 1

abbrev pub second_cell : ℕ → ℕ
second_cell i = 4 * i + 2

abbrev pub link_cell : ℕ → ℕ
link_cell i = 4 * i + 3

-- where the next record starts
abbrev pub record_end : ℕ → ℕ
record_end i = 4 * i + 4

abbrev pub kind_in : List ℕ → ℕ → ℕ
kind_in cs i = get_or cs (kind_cell i) 0

abbrev pub first_in : List ℕ → ℕ → ℕ
first_in cs i = get_or cs (first_cell i) 0

abbrev pub second_in : List ℕ → ℕ → ℕ
second_in cs i = get_or cs (second_cell i) 0

abbrev pub link_in : List ℕ → ℕ → ℕ
link_in cs i = get_or cs (link_cell i) 0

-- ---- the areas behind the records

abbrev pub elements_from : List ℕ → ℕ
elements_from cs = 4 * capacity cs

abbrev pub slots_from : List ℕ → ℕ
slots_from cs = 5 * capacity cs

abbrev pub slots_end : List ℕ → ℕ
slots_end cs = 6 * capacity cs
