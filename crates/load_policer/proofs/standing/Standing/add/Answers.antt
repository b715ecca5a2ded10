use Rattle.std.proofs.Common.{rules}
use Rattle.load_policer.proofs.Fed.{flow_fed, misread, packet_fed, skipped_added}
use Rattle.load_policer.proofs.standing.Standing.add.Goals as goal

pub returns-in-None-clause-fed : goal.returns-in-None-clause-fed
returns-in-None-clause-fed c = λ d st. (misread d c.args.line.now c.args.self.now st c.requires.short (search rules), st, search rules)

pub returns-in-Some-Skipped-clause-fed : goal.returns-in-Some-Skipped-clause-fed
returns-in-Some-Skipped-clause-fed c = λ d st. skipped_added d c.args.line.now c.args.self.now st c.requires.short (search rules) c.args.out.now.items

pub returns-in-Some-Flow-clause-fed : goal.returns-in-Some-Flow-clause-fed
returns-in-Some-Flow-clause-fed c = λ d st. flow_fed d c.args.line.now c.args.self.now st c.requires.short c.in-Some-Flow.word (search rules)
    (search rules) c.add_flow.result c.add_flow.new.self c.add_flow.ensures c.args.out.now.items

pub returns-in-Some-Packet-clause-fed : goal.returns-in-Some-Packet-clause-fed
returns-in-Some-Packet-clause-fed c = λ d st. packet_fed d c.args.line.now c.args.self.now st c.requires.short c.in-Some-Packet.at c.in-Some-Packet.size
    (search rules) c.add_packet.result c.add_packet.new.self c.args.out.now.items c.add_packet.new.out.items (c.add_packet.ensures.fed d st)
