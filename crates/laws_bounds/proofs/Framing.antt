-- What an input leaves as it is, before names are forgotten.
use Rattle.std.specs.Prelude.{◌≡◌, ℕ, Bool, true, false, not, ◌&&◌, is_some, Option, Some, None, refl}
use Rattle.std.proofs.Common.{sym, ap, ◌∙◌}
use Rattle.rsvp_base.specs.Sets.{Set}
use Rattle.rsvp_base.specs.Table.{changed, empty, get, has}
use Rattle.rsvp_base.proofs.Tables.{get-changed, got_changed, then_do}
use Rattle.router_rules.specs.RsvpMessages.declared.message.Message.{Message}
use Rattle.router_rules.specs.RsvpMessages.declared.message.Message.TheVariants as message
use Rattle.router_rules.specs.Act.{act, act_spelt, is_mine}
use Rattle.router_rules.specs.Calls.{unless}
use Rattle.router_rules.specs.Facts.{Facts, Want, WantKey, Wants, want_keys}
use Rattle.router_rules.specs.Inputs.{Change, Input, Call, Wait, Clear, Came, Moved, Spelt, Unspelt, SendAs, DropAs, AdvertAs, WantAs, QuitAll}
use Rattle.router_rules.specs.NodeConfig.{NodeConfig}
use Rattle.router_rules.specs.Rule.{is_silent, settled, spoken}
use Rattle.router_rules.specs.Sends.{unmarked, used_marks}
use Rattle.laws_bounds.proofs.Lists.{some_same}
use Rattle.laws_bounds.specs.Frames.{AreSameButMarks, on_advertised, on_paths, on_resvs, on_senders, on_walls, on_wants, tells_of_paths, tells_of_resvs, tells_of_walls}
use Rattle.router_rules.specs.Steps.{facts_then}

-- ---- what no message changes by itself
pub record LeavesLocals (f : Facts) (k : Change) : Type 0 where
  pub senders : k.facts.senders ≡ f.senders
  pub advertised : k.facts.advertised ≡ f.advertised
  pub wants : k.facts.wants ≡ f.wants
  pub due : k.facts.due ≡ f.due
  pub fired : k.fired ≡ empty

pub spelt_leaves : (p : NodeConfig) (c e : ℕ) (m : Message) (b : Bool) (f : Facts) → LeavesLocals f (act_spelt p c e m b f)
spelt_leaves p c e m false f = record { senders = refl; advertised = refl; wants = refl; due = refl; fired = refl }
spelt_leaves p c e (message.Path m) true f = record { senders = refl; advertised = refl; wants = refl; due = refl; fired = refl }
spelt_leaves p c e (message.Resv m) true f = record { senders = refl; advertised = refl; wants = refl; due = refl; fired = refl }
spelt_leaves p c e (message.PathErr m) true f = record { senders = refl; advertised = refl; wants = refl; due = refl; fired = refl }
spelt_leaves p c e (message.ResvErr m) true f = record { senders = refl; advertised = refl; wants = refl; due = refl; fired = refl }
spelt_leaves p c e (message.PathTear m) true f = record { senders = refl; advertised = refl; wants = refl; due = refl; fired = refl }
spelt_leaves p c e (message.ResvTear m) true f = record { senders = refl; advertised = refl; wants = refl; due = refl; fired = refl }
spelt_leaves p c e (message.ResvConf m) true f = record { senders = refl; advertised = refl; wants = refl; due = refl; fired = refl }

-- ---- tables that some messages change
spelt_paths : (p : NodeConfig) (c e : ℕ) (m : Message) (b : Bool) (f : Facts) → tells_of_paths m ≡ false → (act_spelt p c e m b f).facts.paths ≡ f.paths
spelt_paths p c e m false f n = refl
spelt_paths p c e (message.Path m) true f n = absurd (cc)
spelt_paths p c e (message.Resv m) true f n = refl
spelt_paths p c e (message.PathErr m) true f n = refl
spelt_paths p c e (message.ResvErr m) true f n = refl
spelt_paths p c e (message.PathTear m) true f n = absurd (cc)
spelt_paths p c e (message.ResvTear m) true f n = refl
spelt_paths p c e (message.ResvConf m) true f n = refl

spelt_resvs : (p : NodeConfig) (c e : ℕ) (m : Message) (b : Bool) (f : Facts) → tells_of_resvs m ≡ false → (act_spelt p c e m b f).facts.resvs ≡ f.resvs
spelt_resvs p c e m false f n = refl
spelt_resvs p c e (message.Path m) true f n = refl
spelt_resvs p c e (message.Resv m) true f n = absurd (cc)
spelt_resvs p c e (message.PathErr m) true f n = refl
spelt_resvs p c e (message.ResvErr m) true f n = refl
spelt_resvs p c e (message.PathTear m) true f n = refl
spelt_resvs p c e (message.ResvTear m) true f n = absurd (cc)
spelt_resvs p c e (message.ResvConf m) true f n = refl

spelt_walls : (p : NodeConfig) (c e : ℕ) (m : Message) (b : Bool) (f : Facts) → tells_of_walls m ≡ false → (act_spelt p c e m b f).facts.walls ≡ f.walls
spelt_walls p c e m false f n = refl
spelt_walls p c e (message.Path m) true f n = refl
spelt_walls p c e (message.Resv m) true f n = refl
spelt_walls p c e (message.PathErr m) true f n = refl
spelt_walls p c e (message.ResvErr m) true f n = absurd (cc)
spelt_walls p c e (message.PathTear m) true f n = refl
spelt_walls p c e (message.ResvTear m) true f n = refl
spelt_walls p c e (message.ResvConf m) true f n = refl

-- ---- of all inputs
same_either : {E X : Type 0} (w : Option E) (x : X) → unless w x x ≡ x
same_either None x = refl
same_either (Some e) x = refl

pub act_senders : (p : NodeConfig) (c : ℕ) (i : Input) (f : Facts) → on_senders i ≡ false → (act p c i f).facts.senders ≡ f.senders
act_senders p c (Call (SendAs s x tspec)) f n = absurd (cc)
act_senders p c (Call (DropAs s x)) f n = absurd (cc)
act_senders p c (Call (AdvertAs s x)) f n = same_either _ _
act_senders p c (Call (WantAs s st names flow mark)) f n = same_either _ _
act_senders p c (Call (QuitAll s)) f n = same_either _ _
act_senders p c (Wait ms word) f n = refl
act_senders p c Clear f n = refl
act_senders p c Moved f n = refl
act_senders p c (Came e dst (Unspelt m)) f n = refl
act_senders p c (Came e dst (Spelt m)) f n = (spelt_leaves p c e m (is_mine p e dst m) f).senders

pub act_advertised : (p : NodeConfig) (c : ℕ) (i : Input) (f : Facts) → on_advertised i ≡ false → (act p c i f).facts.advertised ≡ f.advertised
act_advertised p c (Call (SendAs s x tspec)) f n = same_either _ _
act_advertised p c (Call (DropAs s x)) f n = absurd (cc)
act_advertised p c (Call (AdvertAs s x)) f n = absurd (cc)
act_advertised p c (Call (WantAs s st names flow mark)) f n = same_either _ _
act_advertised p c (Call (QuitAll s)) f n = same_either _ _
act_advertised p c (Wait ms word) f n = refl
act_advertised p c Clear f n = refl
act_advertised p c Moved f n = refl
act_advertised p c (Came e dst (Unspelt m)) f n = refl
act_advertised p c (Came e dst (Spelt m)) f n = (spelt_leaves p c e m (is_mine p e dst m) f).advertised

pub act_wants : (p : NodeConfig) (c : ℕ) (i : Input) (f : Facts) → on_wants i ≡ false → (act p c i f).facts.wants ≡ f.wants
act_wants p c (Call (SendAs s x tspec)) f n = same_either _ _
act_wants p c (Call (DropAs s x)) f n = same_either _ _
act_wants p c (Call (AdvertAs s x)) f n = same_either _ _
act_wants p c (Call (WantAs s st names flow mark)) f n = absurd (cc)
act_wants p c (Call (QuitAll s)) f n = absurd (cc)
act_wants p c (Wait ms word) f n = refl
act_wants p c Clear f n = refl
act_wants p c Moved f n = refl
act_wants p c (Came e dst (Unspelt m)) f n = refl
act_wants p c (Came e dst (Spelt m)) f n = (spelt_leaves p c e m (is_mine p e dst m) f).wants

pub act_paths : (p : NodeConfig) (c : ℕ) (i : Input) (f : Facts) → on_paths i ≡ false → (act p c i f).facts.paths ≡ f.paths
act_paths p c (Call l) f n = refl
act_paths p c (Wait ms word) f n = absurd (cc)
act_paths p c Clear f n = absurd (cc)
act_paths p c Moved f n = refl
act_paths p c (Came e dst (Unspelt m)) f n = refl
act_paths p c (Came e dst (Spelt m)) f n = spelt_paths p c e m (is_mine p e dst m) f n

pub act_resvs : (p : NodeConfig) (c : ℕ) (i : Input) (f : Facts) → on_resvs i ≡ false → (act p c i f).facts.resvs ≡ f.resvs
act_resvs p c (Call l) f n = refl
act_resvs p c (Wait ms word) f n = absurd (cc)
act_resvs p c Clear f n = absurd (cc)
act_resvs p c Moved f n = refl
act_resvs p c (Came e dst (Unspelt m)) f n = refl
act_resvs p c (Came e dst (Spelt m)) f n = spelt_resvs p c e m (is_mine p e dst m) f n

pub act_walls : (p : NodeConfig) (c : ℕ) (i : Input) (f : Facts) → on_walls i ≡ false → (act p c i f).facts.walls ≡ f.walls
act_walls p c (Call l) f n = refl
act_walls p c (Wait ms word) f n = absurd (cc)
act_walls p c Clear f n = absurd (cc)
act_walls p c Moved f n = refl
act_walls p c (Came e dst (Unspelt m)) f n = refl
act_walls p c (Came e dst (Spelt m)) f n = spelt_walls p c e m (is_mine p e dst m) f n

-- ---- wants, after marks are used
abbrev with_mark : Set want_keys → WantKey → Want → Want
with_mark used k w = record w { confirm = w.confirm && not (has used k) }

marks_used : (used : Set want_keys) (t : Wants) → AreSameButMarks t (changed (unmarked used) t)
marks_used used t =
    record {
      there = λ k. ap is_some (get-changed want_keys (unmarked used) t k) ∙ by k (get t k);
      source = λ k x e.
          let r = got_changed want_keys (unmarked used) t k x e in
          let same : with_mark used k r.0 ≡ x = some_same (with_mark used k r.0) x r.2 in (
            r.0,
            r.1,
            record { style = ap (λ (w : Want). w.style) (sym same); part = ap (λ (w : Want). w.part) (sym same) },
            λ on. and_left r.0.confirm (not (has used k)) (ap (λ (w : Want). w.confirm) same ∙ on),
          );
    }
  where
    by : (k : WantKey) (w : Option Want) → is_some (then_do w (unmarked used k)) ≡ is_some w
    by k None = refl
    by k (Some w) = refl

    and_left : (a b : Bool) → (a && b) ≡ true → a ≡ true
    and_left true b e = refl
    and_left false b e = e

all_the_same : (t : Wants) → AreSameButMarks t t
all_the_same t = record { there = λ k. refl; source = λ k x e. (x, e, record { style = refl; part = refl }, λ on. on) }

pub wants_then : (old p : NodeConfig) (c : ℕ) (i : Input) (f : Facts) → AreSameButMarks (act p c i f).facts.wants (facts_then old p c i f).wants
wants_then old p c i f = by (is_silent i)
  where
    by : (b : Bool) → AreSameButMarks (act p c i f).facts.wants (spoken b old p f (settled p c f (act p c i f).facts) (act p c i f)).facts.wants
    by true = all_the_same (act p c i f).facts.wants
    by false = marks_used (used_marks old p f (settled p c f (act p c i f).facts) (act p c i f).asked) (act p c i f).facts.wants
