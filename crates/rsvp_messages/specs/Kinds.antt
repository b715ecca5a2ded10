-- Kinds of messages (RFC 2205, 3.1.1).
use Rattle.rsvp_messages.specs.declared.message.Kind.{Kind}
use Rattle.rsvp_messages.specs.declared.message.Kind.TheVariants as kind
use Rattle.rsvp_messages.specs.declared.message.Message.{Message}
use Rattle.rsvp_messages.specs.declared.message.Message.TheVariants as message

abbrev pub kind_of : Message → Kind
kind_of (message.Path m) = kind.Path
kind_of (message.Resv m) = kind.Resv
kind_of (message.PathErr m) = kind.PathErr
kind_of (message.ResvErr m) = kind.ResvErr
kind_of (message.PathTear m) = kind.PathTear
kind_of (message.ResvTear m) = kind.ResvTear
kind_of (message.ResvConf m) = kind.ResvConf
