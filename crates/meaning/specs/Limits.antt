-- Every limit of document 01, by name and once. They are abbreviations: a limit is its number wherever it stands.
use Rattle.std.specs.Prelude.{ℕ, suc, ◌+◌, ◌*◌}

-- ---- of an image: "N is 0..128, M is 1..2,048, text is 0..8,192 bytes"

abbrev pub most_names : ℕ
most_names = 128

abbrev pub most_nodes : ℕ
most_nodes = 2048

abbrev pub most_text : ℕ
most_text = 8192

-- "text length 1..64", in images and in sheets
abbrev pub longest_name : ℕ
longest_name = 64

-- "depth 64 is allowed, 65 refused"
abbrev pub deepest : ℕ
deepest = 64

-- "an image has at most 59,936 bytes"
abbrev pub largest_image : ℕ
largest_image = 32 + 20 * most_names + 24 * most_nodes + most_text

-- ---- of the walk: "a Def needs a ninth frame (module included)"

abbrev pub most_frames : ℕ
most_frames = 8

-- ---- of a sheet: "at most 2,048 types, 2,047 elements, 128 names of 1..64 bytes"

abbrev pub most_types : ℕ
most_types = 2048

abbrev pub most_elements : ℕ
most_elements = 2047

-- "a sheet never exceeds 42,532 bytes"
abbrev pub largest_sheet : ℕ
largest_sheet = 40 + 12 * most_types + 4 * most_elements + 12 * most_names + longest_name * most_names

-- ---- of the program `typecheck`: "its message buffer has 1,024 bytes, its sheet buffer 42,532; it reads at most 59,937 bytes"

abbrev pub message_buffer : ℕ
message_buffer = 1024

abbrev pub sheet_buffer : ℕ
sheet_buffer = largest_sheet

abbrev pub read_at_most : ℕ
read_at_most = suc largest_image

-- ---- of a sheet in words: a longer type's text is cut short; and how much room is enough for a sheet's names, `step: Int` and the line's end,
-- and for what changed, `+ mode: String`, a line for each name of both

abbrev pub longest_shown : ℕ
longest_shown = 200

abbrev pub largest_show : ℕ
largest_show = most_names * (longest_name + 2 + longest_shown + 1)

abbrev pub largest_changes : ℕ
largest_changes = 2 * most_names * (2 + longest_name + 2 + longest_shown + 1)
