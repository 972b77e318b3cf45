-- The fields of a phy's PHY_ENTITY (6.7.4.2), by name. Each place is said here once. Assumes nothing.
use Rattle.std.specs.Prelude.{Bool, ◌&&◌, List, ℕ, ◌/◌, ◌%◌, eqb, get_or}
use Rattle.laws.specs.Splice.{part}
use Rattle.codes.specs.Codes.{no_device_attached, end_device}
use Rattle.wire.specs.Same.{same_bytes}
use Rattle.phy.specs.declared.Phy.{Phy}
use Rattle.phy.specs.declared.PhyIdentifier.{PhyIdentifier}
use Rattle.phy.specs.declared.PortIdentifier.{PortIdentifier}

-- Identify's phy identifier and signal class
abbrev pub identifier_place : ℕ
identifier_place = 20

abbrev pub class_place : ℕ
class_place = 21

-- the port identifier, the negotiated rate, the minimum and the maximum rate
abbrev pub port_place : ℕ
port_place = 28

abbrev pub negotiated_place : ℕ
negotiated_place = 29

abbrev pub minimum_place : ℕ
minimum_place = 30

abbrev pub maximum_place : ℕ
maximum_place = 31

-- Attached: its device type, its target protocols, its SAS address
abbrev pub attached_place : ℕ
attached_place = 36

abbrev pub protocols_place : ℕ
protocols_place = 39

abbrev pub address_place : ℕ
address_place = 48

-- the byte at a place
abbrev pub byte_of : Phy → ℕ → ℕ
byte_of phy place = get_or phy.entity place 0

unfoldable pub identifier_of : Phy → PhyIdentifier
identifier_of phy = record { 0 = byte_of phy identifier_place }

unfoldable pub class_of : Phy → ℕ
class_of phy = byte_of phy class_place

unfoldable pub port_of : Phy → PortIdentifier
port_of phy = record { 0 = byte_of phy port_place }

unfoldable pub negotiated_of : Phy → ℕ
negotiated_of phy = byte_of phy negotiated_place

-- "A minimum or maximum rate byte is 16 × programmed + hardware"
unfoldable pub hardware_minimum : Phy → ℕ
hardware_minimum phy = byte_of phy minimum_place % 16

unfoldable pub programmed_minimum : Phy → ℕ
programmed_minimum phy = byte_of phy minimum_place / 16

unfoldable pub programmed_maximum : Phy → ℕ
programmed_maximum phy = byte_of phy maximum_place / 16

unfoldable pub hardware_maximum : Phy → ℕ
hardware_maximum phy = byte_of phy maximum_place % 16

-- "the 28 Attached bytes"
unfoldable pub attached_of : Phy → List ℕ
attached_of phy = part phy.entity attached_place 28

unfoldable pub attached_type : Phy → ℕ
attached_type phy = byte_of phy attached_place

-- "Attached device type 00h none"
unfoldable pub no_device : Phy → Bool
no_device phy = eqb (attached_type phy) no_device_attached

unfoldable pub attached_address : Phy → List ℕ
attached_address phy = part phy.entity address_place 8

-- "A SATA phy has type 10h and bit 0 of its attached target protocols set"
unfoldable pub is_sata : Phy → Bool
is_sata phy = eqb (attached_type phy) end_device && eqb (byte_of phy protocols_place % 2) 1

-- "destination = attached SAS address"
unfoldable pub attached_is : Phy → List ℕ → Bool
attached_is phy address = same_bytes (attached_address phy) address
