-- The worked rows hold by computing.
use Rattle.std.specs.Prelude.{refl}
use Rattle.std.specs.Fmt.{digits}
use Rattle.value_texts.specs.Texts.{addr_text, session_text, sender_text, flow_text}
use Rattle.value_texts.specs.Reports.{entry_line, head_text}
use Rattle.router_examples.specs.RouterRules.Rule.{facts_with}
use Rattle.network_model.specs.Rows.{OneReceiver, FirstRun, LargerRate, Traced, Injected, SharedLink, MovedTree}

pub one_receiver : OneReceiver
unfolding digits addr_text session_text sender_text flow_text entry_line head_text facts_with
one_receiver = record { passes = refl; rounds = refl; missed = refl }

pub first_run : FirstRun
unfolding digits addr_text session_text sender_text flow_text entry_line head_text facts_with
first_run = record { text = refl }

pub larger_rate : LargerRate
unfolding digits addr_text session_text sender_text flow_text entry_line head_text facts_with
larger_rate = record { text = refl }

pub traced : Traced
unfolding digits addr_text session_text sender_text flow_text entry_line head_text facts_with
traced = record { raise = refl; greedy = refl; quit = refl; cleared = refl; lost = refl }

pub injected : Injected
unfolding digits addr_text session_text sender_text flow_text entry_line head_text facts_with
injected = record { path_in = refl; no_message = refl; not_mine = refl; not_inward = refl }

pub shared_link : SharedLink
unfolding digits addr_text session_text sender_text flow_text entry_line head_text facts_with
shared_link = record { text = refl }

pub moved_tree : MovedTree
unfolding digits addr_text session_text sender_text flow_text entry_line head_text facts_with
moved_tree = record { text = refl }
