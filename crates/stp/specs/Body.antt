-- The body of a code 25, STP passthrough (6.12): where its fields stand, each said once. "uFlags is not read". Assumes nothing.
use Rattle.std.specs.Prelude.{List, ℕ, ◌+◌, get_or}
use Rattle.laws.specs.Splice.{part}
use Rattle.wire.specs.Number.{number}
use Rattle.phy.specs.declared.PhyIdentifier.{PhyIdentifier}
use Rattle.phy.specs.declared.PortIdentifier.{PortIdentifier}

-- the phy and the port that it names
abbrev pub phy_asked : List ℕ → PhyIdentifier
phy_asked body = record { 0 = get_or body 0 0 }

abbrev pub port_asked : List ℕ → PortIdentifier
port_asked body = record { 0 = get_or body 1 0 }

-- the connection rate
abbrev pub connection_rate : List ℕ → ℕ
connection_rate body = get_or body 2 0

-- the destination
abbrev pub destination_of : List ℕ → List ℕ
destination_of body = part body 4 8

-- byte i of the command FIS
abbrev pub fis : List ℕ → ℕ → ℕ
fis body i = get_or body (16 + i) 0

-- the command's code, byte 2 of the command FIS
abbrev pub command : List ℕ → ℕ
command body = fis body 2

-- uDataLength
abbrev pub data_length : List ℕ → ℕ
data_length body = number (part body 40 4)

-- the Status structure
abbrev pub status_place : ℕ
status_place = 44

-- "the structure's size .. (for 25: without bDataBuffer ..)": bDataBuffer starts there
abbrev pub data_place : ℕ
data_place = 136
