use Rattle.std.proofs.Common.{rules, arith, ◌<◌, get_or, length, map as each, set, sym, ap, ◌∙◌, Vec, Global, List}
use Rattle.std.proofs.lemmas.Fn.{filter_same}
use Rattle.std.proofs.lemmas.List.{map-set}
use Rattle.std.specs.List.{filter}
use Rattle.std.specs.Prelude.{not}
use Rattle.script_rules.specs.Entries.{is_meant}
use Rattle.script_rules.specs.declared.entries.Entry.{Entry}
use Rattle.script_rules.proofs.ListedSlots.{list_at}
use Rattle.script_rules.proofs.entries.strike.Goals as goal

pub returns-then-node-len : goal.returns-then-node-len
returns-then-node-len c =
    let items = λ (v : Vec Entry Global). v.items in
    let lists = c.args.entries.now.items in
    let node = c.args.node in
    let lt : node < length lists = search (rules, arith) in
    let was = ap items (c.index_mut.ensures.value ∙ ap (λ n. get_or lists n c.index_mut.result.now) c.from-node.ensures) ∙ sym (list_at items lists node c.index_mut.result.now lt) in
    let kept = filter_same _ (λ (s : Entry). not (is_meant c.args.which s)) _ (λ x b f' k. search rules) _ _ c.retain.ensures.filtered in
    ap (λ n. each items (set lists n c.retain.new.self)) c.from-node.ensures
    ∙ map-set items lists node c.retain.new.self
    ∙ ap (set (each items lists) node) (kept ∙ ap (λ (es : List Entry). filter (λ s. not (is_meant c.args.which s)) es) was)
