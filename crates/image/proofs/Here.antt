-- A node of a sound image that was read: its parts are those of the image's node, and where its subtree may end. Assumes nothing.
use mathlib.Core.Path.{◌≡◌, sym, ap}
use mathlib.Core.List.{List}
use Prim.Native.Nat.{ℕ, ◌≤◌, ◌<◌}
use native.Mathlib.Omega.{arith}
use lib.ListN.{length}
use Rattle.meaning.specs.Image.{nodes_of, node_of, node_count}
use Rattle.meaning.specs.Image.{Node as ImageNode}
use Rattle.meaning.specs.Decode.{stop_of}
use Rattle.meaning.proofs.Faults.{Sound}
use Rattle.meaning.proofs.Nesting.{nodes_many, sound_nested, node_stands_lem}
use Rattle.image.specs.declared.Node.{Node}
use Rattle.image.specs.Parts.{node_means}

pub record Here (bs : List ℕ) (i : ℕ) (d : Node) : Type 0 where
  pub sound : Sound bs
  pub inside : i < node_count bs
  pub means : node_means d ≡ node_of (nodes_of bs) i

pub here : {bs : List ℕ} {i : ℕ} (d : Node) → Sound bs → i < node_count bs → node_means d ≡ node_of (nodes_of bs) i → Here bs i d
here d s l e = record { sound = s; inside = l; means = e }

module _ {bs : List ℕ} {i : ℕ} {d : Node} (h : Here bs i d) where
  pub kind_is : (node_of (nodes_of bs) i).kind ≡ d.kind
  kind_is = ap (λ (x : ImageNode). x.kind) (sym h.means)

  pub arg_is : (node_of (nodes_of bs) i).arg ≡ d.arg
  arg_is = ap (λ (x : ImageNode). x.arg) (sym h.means)

  pub stop_is : stop_of (nodes_of bs) i ≡ d.stop
  unfolding stop_of
  stop_is = ap (λ (x : ImageNode). x.stop) (sym h.means)

  pub many : i < length (nodes_of bs)
  many = omega (arith, h.inside, nodes_many bs)

  pub stop_up : i < d.stop
  unfolding stop_of
  stop_up = omega (arith, stop_is, (node_stands_lem (sound_nested h.sound) i many).above)

  pub stop_in : d.stop ≤ node_count bs
  unfolding stop_of
  stop_in = omega (arith, stop_is, (node_stands_lem (sound_nested h.sound) i many).within, nodes_many bs)
