-- The numbers of CSMI's section 10, each said once, under section 10's names: control codes, link rates, device types, connection status, directions, pinouts (which the code tests by bytes, so that they stand in definitions alone), return codes, and the reset of link errors with its place. Where
-- document 01 prints another number, section 10 decides, as document 01 says. The call's own numbers are document 01's.
-- Assumes nothing.
use Rattle.std.specs.Prelude.{ℕ}

-- control codes

abbrev pub get_driver_info : ℕ
get_driver_info = 1

abbrev pub get_cntlr_config : ℕ
get_cntlr_config = 2

abbrev pub get_cntlr_status : ℕ
get_cntlr_status = 3

abbrev pub firmware_download : ℕ
firmware_download = 4

abbrev pub get_phy_info : ℕ
get_phy_info = 20

abbrev pub set_phy_info : ℕ
set_phy_info = 21

abbrev pub get_link_errors : ℕ
get_link_errors = 22

abbrev pub stp_passthru : ℕ
stp_passthru = 25

abbrev pub get_sata_signature : ℕ
get_sata_signature = 26

abbrev pub get_scsi_address : ℕ
get_scsi_address = 27

abbrev pub get_device_address : ℕ
get_device_address = 28

abbrev pub get_connector_info : ℕ
get_connector_info = 30

-- link rates (6.7.3)

-- "1 (disabled)"
abbrev pub phy_disabled : ℕ
phy_disabled = 1

-- "2 (failed)"
abbrev pub link_rate_failed : ℕ
link_rate_failed = 2

-- "3, spin-up hold (6.7.3)"
abbrev pub sata_spinup_hold : ℕ
sata_spinup_hold = 3

-- "Rate codes are 8 (1.5 Gb/s) and 9 (3.0)"
abbrev pub link_rate_1_5 : ℕ
link_rate_1_5 = 8

abbrev pub link_rate_3_0 : ℕ
link_rate_3_0 = 9

-- attached device types: "00h none, 10h end device, 20h edge, 30h fanout expander"

abbrev pub no_device_attached : ℕ
no_device_attached = 0x00

abbrev pub end_device : ℕ
end_device = 0x10

abbrev pub edge_expander : ℕ
edge_expander = 0x20

abbrev pub fanout_expander : ℕ
fanout_expander = 0x30

-- connection status (6.12)
abbrev pub open_accept : ℕ
open_accept = 0

-- Direction of the Linux header (4.2.3.1): "the two constants of section 10"

abbrev pub data_read : ℕ
data_read = 0

abbrev pub data_write : ℕ
data_write = 1

-- link error reset (6.9): the place of bResetCounts in the body of a code 22, and the value that clears

abbrev pub reset_place : ℕ
reset_place = 1

abbrev pub link_error_reset_counts : ℕ
link_error_reset_counts = 1

-- pinouts of a connector (6.18.3), one bit each

abbrev pub con_unknown : ℕ
con_unknown = 0x1

abbrev pub con_sff8482 : ℕ
con_sff8482 = 0x2

abbrev pub con_sff8470_lane1 : ℕ
con_sff8470_lane1 = 0x100

abbrev pub con_sff8470_lane2 : ℕ
con_sff8470_lane2 = 0x200

abbrev pub con_sff8470_lane3 : ℕ
con_sff8470_lane3 = 0x400

abbrev pub con_sff8470_lane4 : ℕ
con_sff8470_lane4 = 0x800

abbrev pub con_sff8484_lane1 : ℕ
con_sff8484_lane1 = 0x10000

abbrev pub con_sff8484_lane2 : ℕ
con_sff8484_lane2 = 0x20000

abbrev pub con_sff8484_lane3 : ℕ
con_sff8484_lane3 = 0x40000

abbrev pub con_sff8484_lane4 : ℕ
con_sff8484_lane4 = 0x80000

-- return codes ("In the return code", document 01)

abbrev pub success : ℕ
success = 0

-- image check wrong, or commit with nothing staged (W-207)
abbrev pub failed : ℕ
failed = 1

-- unknown code or wrong signature
abbrev pub bad_control_code : ℕ
bad_control_code = 2

-- HeaderLength, Length, reset, negotiated, class, connection rate, FIS type or uDataLength
abbrev pub invalid_parameter : ℕ
invalid_parameter = 3

-- denied
abbrev pub write_attempted : ℕ
write_attempted = 4

-- code 21 done; "granted" counts this and success
abbrev pub phy_info_changed : ℕ
phy_info_changed = success

-- fixed
abbrev pub phy_info_not_changeable : ℕ
phy_info_not_changeable = 2000

-- programmed byte or range
abbrev pub link_rate_out_of_range : ℕ
link_rate_out_of_range = 2001

-- no such phy
abbrev pub phy_does_not_exist : ℕ
phy_does_not_exist = 2002

-- phy not of that port
abbrev pub phy_does_not_match_port : ℕ
phy_does_not_match_port = 2003

-- phy and port both FFh
abbrev pub select_phy_or_port : ℕ
select_phy_or_port = 2005

-- no such port
abbrev pub port_does_not_exist : ℕ
port_does_not_exist = 2006

-- not connected
abbrev pub connection_failed : ℕ
connection_failed = 2008

-- no SATA
abbrev pub no_sata_device : ℕ
no_sata_device = 2009

-- no signature
abbrev pub no_sata_signature : ℕ
no_sata_signature = 2010

-- no row for code 27
abbrev pub no_scsi_address : ℕ
no_scsi_address = 2013

-- no row for code 28
abbrev pub no_device_address : ℕ
no_device_address = 2014

-- "The call's own number"

-- a buffer under the size of its header
abbrev pub short_buffer : ℕ
short_buffer = 100

-- text, or text over 1,024 bytes
abbrev pub bad_text : ℕ
bad_text = 101

-- file length
abbrev pub bad_file_length : ℕ
bad_file_length = 102

-- block check
abbrev pub block_check : ℕ
block_check = 103

-- count or field
abbrev pub bad_field : ℕ
bad_field = 104

-- shared row
abbrev pub shared_row : ℕ
shared_row = 105

-- medium length; of a stage too (W-207)
abbrev pub bad_medium_length : ℕ
bad_medium_length = 106

-- the state breaks a rule
abbrev pub bad_state : ℕ
bad_state = 107
