use Rattle.std.specs.Prelude.{codes}
use Rattle.std.specs.Fmt.{decimal}
use Rattle.grown_network.specs.Texts.{counts_text}
use Rattle.grown_network.proofs.Pieces.{four_put}
use Rattle.grown_network.proofs.summary.put_counts.Goals as goal

pub returns : goal.returns
unfolding counts_text
returns c =
    four_put c.put_number-2.result c.args.out.now.items (codes "booked ends ") (decimal c.args.ends) (codes " entries ")
    (decimal c.args.entries) c.put.new.out.items c.put_number.new.out.items c.put-2.new.out.items c.put_number-2.new.out.items c.in_ok-put.ensures.text
    c.in_ok-put_number.ensures.text c.in_ok-put-2.ensures.text c.put_number-2.ensures.text
