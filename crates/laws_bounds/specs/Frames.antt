-- For each table the inputs that may change it, and wants that stay but for marks that are used.
use Rattle.std.specs.Prelude.{◌≡◌, Bool, true, false, Some}
use Rattle.rsvp_base.specs.Table.{get, has}
use Rattle.router_rules.specs.RsvpMessages.declared.message.Message.{Message}
use Rattle.router_rules.specs.RsvpMessages.declared.message.Message.TheVariants as message
use Rattle.router_rules.specs.Facts.{Want, WantKey, Wants}
use Rattle.router_rules.specs.Inputs.{Local, SendAs, DropAs, AdvertAs, WantAs, QuitAll, Input, Call, Wait, Clear, Came, Moved, Spelt, Unspelt}
use Rattle.laws_bounds.specs.RuleLaws.{IsWant}

-- ---- which kinds of message may change a table
abbrev pub tells_of_paths : Message → Bool
tells_of_paths (message.Path m) = true
tells_of_paths (message.Resv m) = false
tells_of_paths (message.PathErr m) = false
tells_of_paths (message.ResvErr m) = false
tells_of_paths (message.PathTear m) = true
tells_of_paths (message.ResvTear m) = false
tells_of_paths (message.ResvConf m) = false

abbrev pub tells_of_resvs : Message → Bool
tells_of_resvs (message.Path m) = false
tells_of_resvs (message.Resv m) = true
tells_of_resvs (message.PathErr m) = false
tells_of_resvs (message.ResvErr m) = false
tells_of_resvs (message.PathTear m) = false
tells_of_resvs (message.ResvTear m) = true
tells_of_resvs (message.ResvConf m) = false

abbrev pub tells_of_walls : Message → Bool
tells_of_walls (message.Path m) = false
tells_of_walls (message.Resv m) = false
tells_of_walls (message.PathErr m) = false
tells_of_walls (message.ResvErr m) = true
tells_of_walls (message.PathTear m) = false
tells_of_walls (message.ResvTear m) = false
tells_of_walls (message.ResvConf m) = false

-- ---- which local calls do
abbrev pub calls_on_senders : Local → Bool
calls_on_senders (SendAs s x tspec) = true
calls_on_senders (DropAs s x) = true
calls_on_senders (AdvertAs s x) = false
calls_on_senders (WantAs s st names flow mark) = false
calls_on_senders (QuitAll s) = false

abbrev pub calls_on_advertised : Local → Bool
calls_on_advertised (SendAs s x tspec) = false
calls_on_advertised (DropAs s x) = true
calls_on_advertised (AdvertAs s x) = true
calls_on_advertised (WantAs s st names flow mark) = false
calls_on_advertised (QuitAll s) = false

abbrev pub calls_on_wants : Local → Bool
calls_on_wants (SendAs s x tspec) = false
calls_on_wants (DropAs s x) = false
calls_on_wants (AdvertAs s x) = false
calls_on_wants (WantAs s st names flow mark) = true
calls_on_wants (QuitAll s) = true

-- ---- which inputs may change a table; names that are forgotten, and marks, are told apart
abbrev pub on_senders : Input → Bool
on_senders (Call l) = calls_on_senders l
on_senders (Wait ms word) = false
on_senders Clear = false
on_senders (Came e dst a) = false
on_senders Moved = false

abbrev pub on_advertised : Input → Bool
on_advertised (Call l) = calls_on_advertised l
on_advertised (Wait ms word) = false
on_advertised Clear = false
on_advertised (Came e dst a) = false
on_advertised Moved = false

abbrev pub on_wants : Input → Bool
on_wants (Call l) = calls_on_wants l
on_wants (Wait ms word) = false
on_wants Clear = false
on_wants (Came e dst a) = false
on_wants Moved = false

-- a message, or the passing of time
abbrev pub by_message : (Message → Bool) → Input → Bool
by_message tells (Call l) = false
by_message tells (Wait ms word) = true
by_message tells Clear = true
by_message tells (Came e dst (Spelt m)) = tells m
by_message tells (Came e dst (Unspelt m)) = false
by_message tells Moved = false

abbrev pub on_paths : Input → Bool
on_paths i = by_message tells_of_paths i

abbrev pub on_resvs : Input → Bool
on_resvs i = by_message tells_of_resvs i

abbrev pub on_walls : Input → Bool
on_walls i = by_message tells_of_walls i

-- ---- wants stay, but for marks that are used
pub record AreSameButMarks (before after : Wants) : Type 0 where
  pub there : (k : WantKey) → has after k ≡ has before k
  pub source : (k : WantKey) (x : Want) → get after k ≡ Some x → (w : Want) × (get before k ≡ Some w) × IsWant w x × (x.confirm ≡ true → w.confirm ≡ true)
