-- What the policing flags of an entry tell: the claim of the public law.
use Rattle.std.specs.Prelude.{◌≡◌, ℕ, ◌↔◌, true, false, Some}
use Rattle.router_rules.specs.RsvpBase.declared.part.Part.{Part}
use Rattle.router_rules.specs.RsvpBase.declared.session.Sender.{Sender}
use Rattle.router_rules.specs.RsvpBase.declared.style.StyleKind.TheVariants.{Fixed}
use Rattle.router_rules.specs.RsvpBase.declared.style.Unit.{Unit as UnitOf}
use Rattle.router_rules.specs.RsvpBase.Members.{In}
use Rattle.router_rules.specs.RsvpBase.Table.{get, has}
use Rattle.router_rules.specs.FlowOrder.{flow_le}
use Rattle.router_rules.specs.Lines.{NextHop}
use Rattle.router_rules.specs.RsvpBase.declared.entry_key.EntryKey.{EntryKey}
use Rattle.router_rules.specs.RsvpBase.Styles.{name_of}
use Rattle.router_rules.specs.declared.entry.Entry.{Entry}
use Rattle.router_rules.specs.Books.{book}
use Rattle.router_rules.specs.Facts.{Facts, PathState, ResvState, resvs_of}
use Rattle.router_rules.specs.Flags.{entries_at, entry_at, police_at}
use Rattle.router_rules.specs.NodeConfig.{NodeConfig, goes_out}

-- a path whose sender the entry names and whose tree goes out of its interface
pub record IsMatch (p : NodeConfig) (f : Facts) (i : ℕ) (k : EntryKey) (part : Part) (x : Sender) (path : PathState) : Type 0 where
  pub there : get f.paths (k.session, x) ≡ Some path
  pub named : has part.senders (name_of k.style x) ≡ true
  pub way : goes_out p k.session i x ≡ true

-- whose sender asked for policing
pub record AsksForPolicing (p : NodeConfig) (f : Facts) (i : ℕ) (k : EntryKey) (part : Part) : Type 0 where
  pub sender : Sender
  pub path : PathState
  pub matches : IsMatch p f i k part sender path
  pub asks : path.police ≡ true

-- two of them
pub record AreMerged (p : NodeConfig) (f : Facts) (i : ℕ) (k : EntryKey) (part : Part) : Type 0 where
  pub first : Sender
  pub second : Sender
  pub first_path : PathState
  pub second_path : PathState
  pub apart : first ≡ second → ⊥
  pub one : IsMatch p f i k part first first_path
  pub other : IsMatch p f i k part second second_path

-- a reservation of the session and style that is not merged into the entry, shares a sender with it, and has a flow for which
-- the entry's cannot stand
pub record HasBeside (f : Facts) (i : ℕ) (k : EntryKey) (part : Part) : Type 0 where
  pub hop : NextHop
  pub unit : UnitOf
  pub resv : ResvState
  pub there : get (resvs_of k.style f) (k.session, (hop, unit)) ≡ Some resv
  pub elsewhere : hop.0 ≡ i → unit ≡ k.unit → ⊥
  pub shared : Sender
  pub in_entry : has part.senders shared ≡ true
  pub in_resv : has resv.part.senders shared ≡ true
  pub larger : flow_le resv.part.flow part.flow ≡ false

pub record FlagsByPathsAndResvs : Type 0 where
  pub e : (p : NodeConfig) (f : Facts) (i : ℕ) (k : EntryKey) (part : Part) → ((police_at p f i k part).e ≡ true) ↔ AsksForPolicing p f i k part
  pub m : (p : NodeConfig) (f : Facts) (i : ℕ) (k : EntryKey) (part : Part) → ((police_at p f i k part).m ≡ true) ↔ ((k.style ≡ Fixed → ⊥) × AreMerged p f i k part)
  pub b : (p : NodeConfig) (f : Facts) (i : ℕ) (k : EntryKey) (part : Part) → ((police_at p f i k part).b ≡ true) ↔ HasBeside f i k part
  -- the entries are those of the book
  pub entries : (p : NodeConfig) (f : Facts) (i : ℕ) (e : Entry) → In e (entries_at p f i) ↔ ((k : EntryKey) × (part : Part) × (get (book f i) k ≡ Some part) × (e ≡ entry_at p f i (k, part)))
