use Rattle.std.proofs.Common.{◌∙◌, ap, append_assoc}
use Rattle.std.specs.Prelude.{ℕ, List, ◌++◌, Result, Ok, Err, OnOk, codes}
use Rattle.std.specs.Fmt.{decimal}
use Rattle.script_grammar.specs.Draft.{lifetime_of_period, wall_lifetime_of_period}
use Rattle.script_grammar.proofs.texts.put_range.Goals as goal

then_ok : {E : Type 0} (r : Result (Unit {0}) E) {P Q : Type 0} → (P → Q) → OnOk r P → OnOk r Q
then_ok (Ok u) f p = f p
then_ok (Err e) f p = tt

pub returns-in_ok-put-in-Left-clause-text : goal.returns-in_ok-put-in-Left-clause-text
returns-in_ok-put-in-Left-clause-text c =
    let most = decimal (lifetime_of_period c.args.period) in
    let head = codes "a number of milliseconds, from 1 to " in
    let same = ap (λ (x : List ℕ). x ++ most) c.in_ok-put-in-Left.ensures.text ∙ append_assoc c.args.out.now.items head most in
    rw c.in-Left.is (then_ok c.put_number.result (λ e. e ∙ same) (rw c.from.ensures at c.put_number.ensures.text))

pub returns-in_ok-put-in-WallLeft-clause-text : goal.returns-in_ok-put-in-WallLeft-clause-text
returns-in_ok-put-in-WallLeft-clause-text c =
    let most = decimal (wall_lifetime_of_period c.args.period) in
    let head = codes "a number of milliseconds, from 1 to " in
    let same = ap (λ (x : List ℕ). x ++ most) c.in_ok-put-in-WallLeft.ensures.text ∙ append_assoc c.args.out.now.items head most in
    rw c.in-WallLeft.is (then_ok c.put_number-in-WallLeft.result (λ e. e ∙ same) (rw c.from-in-WallLeft.ensures at c.put_number-in-WallLeft.ensures.text))

pub returns-in-Period-clause-text : goal.returns-in-Period-clause-text
returns-in-Period-clause-text c = rw c.in-Period.is c.put-in-Period.ensures.text

pub returns-in-Seed-clause-text : goal.returns-in-Seed-clause-text
returns-in-Seed-clause-text c = rw c.in-Seed.is c.put-in-Seed.ensures.text

pub returns-in-Host-clause-text : goal.returns-in-Host-clause-text
returns-in-Host-clause-text c = rw c.in-Host.is c.put-in-Host.ensures.text

pub returns-in-Capacity-clause-text : goal.returns-in-Capacity-clause-text
returns-in-Capacity-clause-text c = rw c.in-Capacity.is c.put-in-Capacity.ensures.text

pub returns-in-Mtu-clause-text : goal.returns-in-Mtu-clause-text
returns-in-Mtu-clause-text c = rw c.in-Mtu.is c.put-in-Mtu.ensures.text

pub returns-in-Latency-clause-text : goal.returns-in-Latency-clause-text
returns-in-Latency-clause-text c = rw c.in-Latency.is c.put-in-Latency.ensures.text

pub returns-in-Address-clause-text : goal.returns-in-Address-clause-text
returns-in-Address-clause-text c = rw c.in-Address.is c.put-in-Address.ensures.text

pub returns-in-Session-clause-text : goal.returns-in-Session-clause-text
returns-in-Session-clause-text c = rw c.in-Session.is c.put-in-Session.ensures.text

pub returns-in-Sender-clause-text : goal.returns-in-Sender-clause-text
returns-in-Sender-clause-text c = rw c.in-Sender.is c.put-in-Sender.ensures.text

pub returns-in-Senders-clause-text : goal.returns-in-Senders-clause-text
returns-in-Senders-clause-text c = rw c.in-Senders.is c.put-in-Senders.ensures.text

pub returns-in-Addresses-clause-text : goal.returns-in-Addresses-clause-text
returns-in-Addresses-clause-text c = rw c.in-Addresses.is c.put-in-Addresses.ensures.text

pub returns-in-Wait-clause-text : goal.returns-in-Wait-clause-text
returns-in-Wait-clause-text c = rw c.in-Wait.is c.put-in-Wait.ensures.text

pub returns-in-Place-clause-text : goal.returns-in-Place-clause-text
returns-in-Place-clause-text c = rw c.in-Place.is c.put-in-Place.ensures.text
