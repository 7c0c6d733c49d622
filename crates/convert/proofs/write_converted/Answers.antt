use mathlib.Core.Path.{refl, ◌∙◌, ap}
use lib.ListN.{length}
use Rattle.image.proofs.Records.{head_long, node_inside}
use Rattle.image.proofs.Searches.{is_tree_set_lem, not_tree_set}
use Rattle.words.proofs.Laws.{put_length}
use Rattle.convert.proofs.Turning.{turned_none, turned_all, turned_other, turned_tree_set}
use native.Mathlib.Omega.{arith}
use Rattle.convert.proofs.write_converted.Goals as goal
use Rattle.convert.proofs.write_converted.Goals.{then-node-eq-TREE_SET, else-node-eq-TREE_SET}

pub areas-l-requires : goal.areas-l-requires
areas-l-requires c =
    head_long c.requires.sound.headed

pub loop-i-init : goal.loop-i-init
loop-i-init c =
    (refl, rw c.put.ensures.buf_after (turned_none c.args.image.now c.args.out.now))

pub put_kind-requires : goal.put_kind-requires
put_kind-requires c =
    omega (arith, c.areas-l.ensures.nodes, node_inside c.requires.sound.headed c.loop-i.i (omega (arith, c.areas-l.ensures.count)), c.loop-i.invariant.0, (ap length c.put.ensures.buf_after ∙ put_length c.args.out.now 0 c.args.image.now (omega (arith, c.requires.image_in_bounds))), c.requires.image_in_bounds)

pub loop-i-preserved : goal.loop-i-preserved
loop-i-preserved c =
    elim c.if-node-eq-TREE_SET.branch [
      | then-node-eq-TREE_SET w ↦ rw w.out-is (
        w.put_kind.ensures.buf_len_unchanged ∙ c.loop-i.invariant.0,
        w.put_kind.ensures.buf_after
            ∙ rw (c.areas-l.ensures.nodes, c.loop-i.invariant.1) (turned_tree_set c.args.image.now _ c.loop-i.i c.requires.sound.headed (omega (arith, c.areas-l.ensures.count)) (is_tree_set_lem _ _ c.node_at-node.ensures w.if-node-eq-TREE_SET.true)),
      )
      | else-node-eq-TREE_SET w ↦ rw w.out-is (c.loop-i.invariant.0, c.loop-i.invariant.1 ∙ turned_other c.args.image.now _ c.loop-i.i (not_tree_set _ _ c.node_at-node.ensures w.if-node-eq-TREE_SET.false))
    ]

pub returns : goal.returns
returns c =
    turned_all c.args.image.now c.args.out.now _ c.loop-i.i (omega (arith, c.areas-l.ensures.count)) (rw c.put.ensures.buf_after at c.loop-i.invariant.1)
