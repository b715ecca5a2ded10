-- Datagrams in flight, as bytes.
use Rattle.std.specs.Prelude.{ℕ, List}
use Rattle.rsvp_base.specs.declared.addr.Addr.{Addr}

-- bytes on their way to an end, with a destination
pub record Parcel : Type 0 where
  pub end : ℕ
  pub dst : Addr
  pub bytes : List ℕ

-- a parcel to this end with these bytes
abbrev pub parcel : Addr → List ℕ → ℕ → Parcel
parcel dst bytes e = record { end = e; dst = dst; bytes = bytes }
