-- The number of each layer and of each refusal, and the layer that a refusal belongs to.
use Rattle.std.specs.Prelude.{ℕ}
use Rattle.refusals.specs.declared.Layer.{Layer}
use Rattle.refusals.specs.declared.Layer.TheVariants.{Reader, Board, Store}
use Rattle.refusals.specs.declared.Reason.{Reason}
use Rattle.refusals.specs.declared.Refusal.{Refusal}
use Rattle.refusals.specs.declared.Reason.TheVariants.{NoSuchItem, NoRoom, BadTapeRow, LineTooLong, NotHexadecimal, UnknownKind, WrongLength, BadMode}

-- the number of a layer
abbrev pub layer_number : Layer → ℕ
layer_number Reader = 1
layer_number Board = 2
layer_number Store = 3

-- the layer that refuses for a reason
abbrev pub reason_layer : Reason → Layer
reason_layer NoSuchItem = Store
reason_layer NoRoom = Store
reason_layer BadTapeRow = Store
reason_layer LineTooLong = Reader
reason_layer NotHexadecimal = Reader
reason_layer UnknownKind = Reader
reason_layer WrongLength = Reader
reason_layer BadMode = Reader

-- the number of a reason
abbrev pub reason_number : Reason → ℕ
reason_number NoSuchItem = 20
reason_number NoRoom = 21
reason_number BadTapeRow = 22
reason_number LineTooLong = 30
reason_number NotHexadecimal = 31
reason_number UnknownKind = 32
reason_number WrongLength = 33
reason_number BadMode = 34

-- the refusal for a reason at a place
abbrev pub refusal_at : Reason → ℕ → Refusal
refusal_at reason place = record { reason = reason; place = place }
