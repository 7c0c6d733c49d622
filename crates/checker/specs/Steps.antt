-- The steps of a check.
use Rattle.std.specs.Prelude.{◌≡◌, List, [], ℕ, ◌+◌, ◌*◌, ◌≤◌}
use Rattle.std.proofs.Math.Option.{Option}
use Rattle.meaning.specs.Limits.{most_elements}
use Rattle.meaning.specs.Base.{if_some}
use Rattle.meaning.specs.Image.{Node, node_count, nodes_from, nodes_of, node_of, names_of}
use Rattle.meaning.specs.Message.{message, conflict}
use Rattle.meaning.specs.Answer.{Answer, fitting}
use Rattle.meaning.proofs.Faults.{Sound}
use Rattle.types.specs.Table.{Tab, capacity, most_numbers, Fresh, Wf}
use Rattle.frames.specs.Env.{First, Rows, Fit, first_node, FirstBelow}
use Rattle.state.specs.Notes.{code_in, place_in, places_in, first_in, second_in, since_in}
use Rattle.state.specs.declared.Notes.{Notes}
use Rattle.rules.specs.Outcome.{pieces}
use Rattle.targets.specs.Ending.{first_at, Named}

-- ---- what a walk is lent

-- a sound image, whose nodes have room in a table of so many cells beside the plain types
pub record Sized (bs : List ℕ) (nodes cells : ℕ) : Type 0 where
  pub sound : Sound bs
  pub nodes_at : nodes ≡ nodes_from bs
  pub room : 6 * (node_count bs + 8) ≤ cells
  pub most : cells ≤ 6 * most_numbers

-- cells for a table that has room for a type and an element for each node of a sound image, beside the plain types
pub record Lent (bs : List ℕ) (nodes : ℕ) (cs : List ℕ) : Type 0 where
  pub sound : Sound bs
  pub nodes_at : nodes ≡ nodes_from bs
  pub fresh : Fresh cs
  pub room : node_count bs + 8 ≤ capacity cs

-- ---- an accepted program

pub record Accepting (bs : List ℕ) (t : Tab) (fs : Rows) (top : ℕ) : Type 0 where
  pub sound : Sound bs
  pub wf : Wf t
  pub fit : Fit t fs top
  pub few : t.m ≤ most_elements

-- ---- a typing refusal

-- where 25 and 23 point besides
abbrev pub second_place : Notes → Option ℕ
second_place ns = first_at (code_in ns) (since_in ns)

pub record Refusing (bs : List ℕ) (nodes : ℕ) (t : Tab) (ns : Notes) : Type 0 where
  pub sound : Sound bs
  pub nodes_at : nodes ≡ nodes_from bs
  pub wf : Wf t
  pub named : Named t (node_count bs) (code_in ns) (places_in ns) (first_in ns) (second_in ns)
  pub near : (f : First) → first_node f ≡ second_place ns → FirstBelow (node_count bs) f
  pub typing : (20 ≤ code_in ns) × (code_in ns ≤ 50)

-- the span of a first node, and 0,0 where there is none
abbrev pub first_start : List Node → Option ℕ → ℕ
first_start ds first = if_some first (λ m. (node_of ds m).span_start) 0

abbrev pub first_end : List Node → Option ℕ → ℕ
first_end ds first = if_some first (λ m. (node_of ds m).span_end) 0

-- the answer of a refusal whose message has so much room
unfoldable pub refused_as : List ℕ → Tab → Notes → ℕ → Answer
refused_as bs t ns room =
    record {
      code = code_in ns;
      place = place_in ns;
      span_start = (node_of (nodes_of bs) (place_in ns)).span_start;
      span_end = (node_of (nodes_of bs) (place_in ns)).span_end;
      second_start = first_start (nodes_of bs) (second_place ns);
      second_end = first_end (nodes_of bs) (second_place ns);
      sheet = [];
      message = fitting room (message (conflict (code_in ns) (place_in ns) (second_place ns) (pieces (names_of bs) t (code_in ns) (first_in ns) (second_in ns))));
    }
