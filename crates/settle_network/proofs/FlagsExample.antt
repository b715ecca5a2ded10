-- The flags of small networks, by computing.
use Rattle.std.proofs.Common.{refl}
use Rattle.std.specs.Fmt.{digits}
use Rattle.value_texts.specs.Reports.{entry_line, head_text}
use Rattle.value_texts.specs.Texts.{addr_text, flow_text, sender_text, session_text}
use Rattle.tree_model.specs.Wants.{want}
use Rattle.settle_network.specs.FlagsExample.{FlagsAreSo, FlagsCanDiffer}

pub flags_are_so : FlagsAreSo
unfolding digits addr_text session_text sender_text flow_text entry_line head_text want
flags_are_so = record { text = refl }

pub flags_can_differ : FlagsCanDiffer
unfolding want
flags_can_differ = record { alike = record { net = refl; locals = refl }; demanded = refl; said = refl; injected = refl }
