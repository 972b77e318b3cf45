-- What each control code asks of a request: whether it is known, the size of its structure, its signature, its data and its need (document
-- 01, "Level" and "Request"; W-202, W-204, W-207). A new code is a new line in `served_codes`, `structure_size` and `need`, and in the others where it is not as the
-- rest. Assumes nothing.
use Rattle.std.specs.Prelude.{Bool, cond, ◌||◌, List, [], ◌∷◌, ◌++◌, ℕ, eqb, get_or}
use Rattle.laws.specs.Ascii.{ascii}
use Rattle.codes.specs.Codes.{get_driver_info, get_cntlr_config, get_cntlr_status, firmware_download, get_phy_info, set_phy_info, get_link_errors, stp_passthru, get_sata_signature, get_scsi_address, get_device_address, get_connector_info, reset_place, link_error_reset_counts}
use Rattle.level.specs.declared.Level.{Level}
use Rattle.level.specs.Text.{restricted, limited, full}
use Rattle.level.specs.Need.{among, need_of}
use Rattle.stp.specs.Body.{command, data_length, data_place}
use Rattle.download.specs.Body.{buffer_length, image_place}

-- "Control codes served: 1 .., 20 .., 21 .., 22 .., 25 .., 26 .., 27 .., 28 .. Every other code is unknown for now"; "Serve codes 2, 3 and 30" (W-204); "Serve code 4" (W-207)
abbrev pub served_codes : List ℕ
served_codes =
    get_driver_info
    ∷ get_cntlr_config
    ∷ get_cntlr_status
    ∷ firmware_download
    ∷ get_phy_info
    ∷ set_phy_info
    ∷ get_link_errors
    ∷ stp_passthru
    ∷ get_sata_signature
    ∷ get_scsi_address
    ∷ get_device_address
    ∷ get_connector_info
    ∷ []

unfoldable pub known : ℕ → Bool
known control = among control served_codes

-- "the structure's size without header", of 25 "without bDataBuffer", and so of 4
unfoldable pub structure_size : ℕ → ℕ
structure_size control =
    cond (eqb control get_driver_info) 174
    (cond (eqb control get_cntlr_config) 176
    (cond (eqb control get_cntlr_status) 36
    (cond (eqb control firmware_download) image_place
    (cond (eqb control get_phy_info) 2052
    (cond (eqb control set_phy_info) 8
    (cond (eqb control get_link_errors) 20
    (cond (eqb control stp_passthru) data_place
    (cond (eqb control get_sata_signature) 24
    (cond (eqb control get_scsi_address) 20
    (cond (eqb control get_device_address) 20
    (cond (eqb control get_connector_info) 1152
    0)))))))))))

-- "for 25: .. plus uDataLength"; of 4 "Length counts them", the bytes that uBufferLength says, whatever the flags (W-207)
unfoldable pub data_size : ℕ → List ℕ → ℕ
data_size control body = cond (eqb control stp_passthru) (data_length body) (cond (eqb control firmware_download) (buffer_length body) 0)

-- "CSMIALL for code 1, CSMISAS for the rest, then a zero byte"
abbrev pub csmi_all : List ℕ
csmi_all = ascii "CSMIALL" ++ (0 ∷ [])

abbrev pub csmi_sas : List ℕ
csmi_sas = ascii "CSMISAS" ++ (0 ∷ [])

-- "for code 1"; "signature CSMIALL for 2 and 3, CSMISAS for 30" (W-204); "code 4 .., signature CSMIALL" (W-207)
unfoldable pub signed_all : ℕ → Bool
signed_all control = eqb control get_driver_info || eqb control get_cntlr_config || eqb control get_cntlr_status || eqb control firmware_download

-- "A code 22 request with its reset byte at 1 needs Full ..; with any other byte it still needs Restricted" (W-202)
unfoldable pub link_errors_need : ℕ → Level
link_errors_need reset = cond (eqb reset link_error_reset_counts) full restricted

-- "codes 1, 20, .. 26, 27, 28 Restricted; 21 Full. .. Code 25 takes the need of each of the 256 command codes, byte 2 of the command
-- FIS"; 22 by its reset byte, above; "codes 2, 3 and 30 .. at Restricted" (W-204); "code 4 at Limited" (W-207). A code that no line names needs Full
unfoldable pub need : ℕ → List ℕ → Level
need control body =
    cond (eqb control get_driver_info) restricted
    (cond (eqb control get_cntlr_config) restricted
    (cond (eqb control get_cntlr_status) restricted
    (cond (eqb control firmware_download) limited
    (cond (eqb control get_phy_info) restricted
    (cond (eqb control set_phy_info) full
    (cond (eqb control get_link_errors) (link_errors_need (get_or body reset_place 0))
    (cond (eqb control stp_passthru) (need_of (command body))
    (cond (eqb control get_sata_signature) restricted
    (cond (eqb control get_scsi_address) restricted
    (cond (eqb control get_device_address) restricted
    (cond (eqb control get_connector_info) restricted
    full)))))))))))
