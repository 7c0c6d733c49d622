-- Two byte strings that differ in their node records alone: their headers, names and texts are the same, and so are the faults there.
use mathlib.Core.Path.{◌≡◌}
use mathlib.Core.List.{List}
use Prim.Native.Nat.{ℕ, ◌+◌, ◌*◌, ◌≤◌, ◌<◌}
use native.Mathlib.Omega.{arith}
use lib.ListN.{length, get_or, drop}
use Rattle.meaning.specs.Base.{word}
use Rattle.meaning.specs.Image.{version, name_count, node_count, text_count, names_from, nodes_from, texts_from, total, name_record, name_records, texts_of, names_of, head_stands, counts_stand, offsets_stand, broken_name, unsafe_name, broken_node, badly_nested, too_deep_node, head_fault, body_fault, image_fault}
use Rattle.meaning.proofs.Records.{records_alike, name_words}

pub record Beside (bs cs : List ℕ) : Type 0 where
  pub long : length cs ≡ length bs
  pub front : (j : ℕ) → j < nodes_from bs → get_or cs j 0 ≡ get_or bs j 0
  pub back : drop (texts_from bs) cs ≡ drop (texts_from bs) bs

module _ {bs cs : List ℕ} (o : Beside bs cs) where
  front_word : (k : ℕ) → k + 4 ≤ nodes_from bs → word cs k ≡ word bs k
  front_word k h =
      rw (o.front k (omega arith), o.front (k + 1) (omega arith), o.front (k + 2) (omega arith), o.front (k + 3) (omega arith))

  pub head_word : (k : ℕ) → k + 4 ≤ 32 → word cs k ≡ word bs k
  unfolding nodes_from
  head_word k h = front_word k (omega arith)

  -- ---- the header, the names and the texts are the same

  version_same : version cs ≡ version bs
  unfolding version
  version_same = head_word 0 (omega arith)

  pub names_same : name_count cs ≡ name_count bs
  unfolding name_count
  names_same = head_word 4 (omega arith)

  pub nodes_same : node_count cs ≡ node_count bs
  unfolding node_count
  nodes_same = head_word 12 (omega arith)

  text_same : text_count cs ≡ text_count bs
  unfolding text_count
  text_same = head_word 20 (omega arith)

  pub from_same : nodes_from cs ≡ nodes_from bs
  unfolding nodes_from
  from_same = rw names_same

  texts_from_same : texts_from cs ≡ texts_from bs
  unfolding texts_from
  texts_from_same = rw (from_same, nodes_same)

  total_same : total cs ≡ total bs
  unfolding total
  total_same = rw (texts_from_same, text_same)

  texts_same : texts_of cs ≡ texts_of bs
  unfolding texts_of
  texts_same = rw (text_same, texts_from_same, o.back)

  name_same : (k : ℕ) → k < name_count bs → name_record (drop (names_from + 20 * k) cs) ≡ name_record (drop (names_from + 20 * k) bs)
  unfolding nodes_from
  name_same k h =
      let at : ℕ = names_from + 20 * k in
      rw (
        name_words cs at,
        name_words bs at,
        front_word at (omega arith),
        front_word (at + 4) (omega arith),
        front_word (at + 8) (omega arith),
        front_word (at + 12) (omega arith),
        front_word (at + 16) (omega arith),
      )

  name_records_same : name_records cs ≡ name_records bs
  unfolding name_records
  name_records_same =
      rw names_same
      (records_alike name_record 20 (name_count bs) names_from cs bs (record { start = 0; size = 0; role = 0; p = 0; q = 0 }) name_same)

  pub names_of_same : names_of cs ≡ names_of bs
  unfolding names_of
  names_of_same = rw (texts_same, name_records_same)

  -- ---- faults

  head_same : head_fault cs ≡ head_fault bs
  unfolding head_fault head_stands counts_stand offsets_stand
  head_same =
      rw (
        o.long,
        version_same,
        names_same,
        nodes_same,
        text_same,
        from_same,
        texts_from_same,
        total_same,
        head_word 8 (omega arith),
        head_word 16 (omega arith),
        head_word 24 (omega arith),
        head_word 28 (omega arith),
      )

  pub name_faults_same : (broken_name cs ≡ broken_name bs) × (unsafe_name cs ≡ unsafe_name bs)
  unfolding broken_name unsafe_name
  name_faults_same = (rw (texts_same, name_records_same), rw names_of_same)

  -- those of the nodes decide
  pub fault_same : broken_node cs ≡ broken_node bs → badly_nested cs ≡ badly_nested bs → too_deep_node cs ≡ too_deep_node bs → image_fault cs ≡ image_fault bs
  unfolding image_fault body_fault
  fault_same p q r = rw (head_same, name_faults_same.0, name_faults_same.1, p, q, r)
