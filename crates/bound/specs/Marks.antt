-- A yes or no for each of the 128 names.
use Rattle.std.specs.Prelude.{◌≡◌, Bool, true, List, [], ◌∷◌, map, ℕ, ◌-◌, ◌<◌, length, set}
use Rattle.meaning.specs.Limits.{most_names}
use Rattle.meaning.specs.Base.{is_in, count}
use Rattle.meaning.specs.Image.{nodes_of}
use Rattle.meaning.proofs.Scan.{scan_target, scan}

-- whether each name is one of xs
unfoldable pub marks_of : List ℕ → List Bool
marks_of xs = map (λ x. is_in x xs) (count 0 most_names)

-- ---- the steps of the pass: `scan` is the flat form of what a module may bind (meaning/proofs/Scan)

-- the marks ms with a yes for each of xs
unfoldable pub marked : List ℕ → List Bool → List Bool
marked [] ms = ms
marked (x ∷ xs) ms = marked xs (set ms x true)

-- a target's names are marked; its nodes are `from` to `end`
pub record Targeted (bs : List ℕ) (from end : ℕ) (old new : List Bool) : Type 0 where
  pub marks : new ≡ marked (scan_target (nodes_of bs) (length (nodes_of bs)) from end) old

-- one step of the scan, however many are left: it goes on from node r
pub record Stepped (bs : List ℕ) (i : ℕ) (old new : List Bool) (r : ℕ) : Type 0 where
  pub up : i < r
  pub marks : (k : ℕ) → 0 < k → marked (scan (nodes_of bs) k i) old ≡ marked (scan (nodes_of bs) (k - 1) r) new
