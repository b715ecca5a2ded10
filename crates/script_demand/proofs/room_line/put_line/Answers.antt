use Rattle.std.proofs.Common.{◌≡◌, ◌++◌, Bool, List, nat_lt, OnOk, ℕ, subst}
use Rattle.std.specs.Fmt.{decimal}
use Rattle.std.specs.Prelude.{codes}
use Rattle.script_demand.specs.Texts.{crowds_text, room_line}
use Rattle.script_demand.proofs.Chains.{last, more}
use Rattle.script_demand.proofs.room_line.put_line.Goals as goal

pub returns : goal.returns
unfolding room_line
returns c =
    let old = c.args.out.now.items in
    let a : List ℕ = codes "room: settled, a round has at most " in
    let b : List ℕ = decimal c.args.most in
    let d : List ℕ = codes " refreshes in flight, and 8192 datagrams may be: " in
    let one = more old c.put.new.out.items c.put_sum.new.out.items a b c.in_ok-put.ensures.text c.in_ok-put_sum.ensures in
    let two = more old c.put_sum.new.out.items c.put-2.new.out.items (a ++ b) d one c.in_ok-put-2.ensures.text in
    last c.put_crowds.result old c.put-2.new.out.items c.put_crowds.new.out.items (a ++ b ++ d) (crowds_text (nat_lt 8192 c.args.most)) two
    (subst (λ (z : Bool). OnOk c.put_crowds.result (c.put_crowds.new.out.items ≡ c.put-2.new.out.items ++ crowds_text z)) c.may_crowd.ensures c.put_crowds.ensures)
