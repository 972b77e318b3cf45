-- The numbers that the enums of this crate stand for, by the names of Codes.antt: a refusal's return code, the call's own number, and the control codes that are
-- served ("If an answer is an enum, a definition gives this paper's number and values for each of its cases"). Assumes nothing.
use Rattle.std.specs.Prelude.{ℕ, Result, Ok, Err, cond, eqb}
use Rattle.codes.specs.Codes.{get_driver_info, get_cntlr_config, get_cntlr_status, firmware_download, get_phy_info, set_phy_info, get_link_errors, stp_passthru, get_sata_signature, get_scsi_address, get_device_address, get_connector_info}
use Rattle.codes.specs.Codes.{success, failed, bad_control_code, invalid_parameter, write_attempted, phy_info_not_changeable, link_rate_out_of_range, phy_does_not_exist, phy_does_not_match_port, select_phy_or_port, port_does_not_exist, connection_failed, no_sata_device, no_sata_signature, no_scsi_address, no_device_address}
use Rattle.codes.specs.Codes.{short_buffer, bad_text, bad_file_length, block_check, bad_field, shared_row, bad_medium_length, bad_state}
use Rattle.codes.specs.declared.return_code.ReturnCode.{ReturnCode}
use Rattle.codes.specs.declared.return_code.ReturnCode.TheVariants.{Failed, BadControlCode, InvalidParameter, WriteAttempted, PhyInfoNotChangeable, LinkRateOutOfRange, PhyDoesNotExist, PhyDoesNotMatchPort, SelectPhyOrPort, PortDoesNotExist, ConnectionFailed, NoSataDevice, NoSataSignature, NoScsiAddress, NoDeviceAddress}
use Rattle.codes.specs.declared.call_error.CallError.{CallError}
use Rattle.codes.specs.declared.call_error.CallError.TheVariants.{ShortBuffer, BadText, BadFileLength, BlockCheck, BadField, SharedRow, BadMediumLength, BadState}
use Rattle.codes.specs.declared.control_code.ControlCode.{ControlCode}
use Rattle.codes.specs.declared.control_code.ControlCode.TheVariants.{GetDriverInfo, GetCntlrConfig, GetCntlrStatus, FirmwareDownload, GetPhyInfo, SetPhyInfo, GetLinkErrors, StpPassthru, GetSataSignature, GetScsiAddress, GetDeviceAddress, GetConnectorInfo}
use Rattle.codes.specs.declared.control_code.UnknownControlCode.{UnknownControlCode}

-- the number of a refusal
abbrev pub return_number : ReturnCode → ℕ
return_number Failed = failed
return_number BadControlCode = bad_control_code
return_number InvalidParameter = invalid_parameter
return_number WriteAttempted = write_attempted
return_number PhyInfoNotChangeable = phy_info_not_changeable
return_number LinkRateOutOfRange = link_rate_out_of_range
return_number PhyDoesNotExist = phy_does_not_exist
return_number PhyDoesNotMatchPort = phy_does_not_match_port
return_number SelectPhyOrPort = select_phy_or_port
return_number PortDoesNotExist = port_does_not_exist
return_number ConnectionFailed = connection_failed
return_number NoSataDevice = no_sata_device
return_number NoSataSignature = no_sata_signature
return_number NoScsiAddress = no_scsi_address
return_number NoDeviceAddress = no_device_address

-- "In the return code": what is written for what a request came to, of any value
abbrev pub code_of : {A : Type 0} → Result A ReturnCode → ℕ
code_of (Ok x) = success
code_of (Err code) = return_number code

-- the number of what was wrong
abbrev pub error_number : CallError → ℕ
error_number ShortBuffer = short_buffer
error_number BadText = bad_text
error_number BadFileLength = bad_file_length
error_number BlockCheck = block_check
error_number BadField = bad_field
error_number SharedRow = shared_row
error_number BadMediumLength = bad_medium_length
error_number BadState = bad_state

-- "The call's own number", of any value: 0 where nothing was wrong
abbrev pub call_of : {A : Type 0} → Result A CallError → ℕ
call_of (Ok x) = 0
call_of (Err error) = error_number error

-- the number of a control code
abbrev pub control_number : ControlCode → ℕ
control_number GetDriverInfo = get_driver_info
control_number GetCntlrConfig = get_cntlr_config
control_number GetCntlrStatus = get_cntlr_status
control_number FirmwareDownload = firmware_download
control_number GetPhyInfo = get_phy_info
control_number SetPhyInfo = set_phy_info
control_number GetLinkErrors = get_link_errors
control_number StpPassthru = stp_passthru
control_number GetSataSignature = get_sata_signature
control_number GetScsiAddress = get_scsi_address
control_number GetDeviceAddress = get_device_address
control_number GetConnectorInfo = get_connector_info

-- "Every other code is unknown"
abbrev pub control_code_of : ℕ → Result ControlCode UnknownControlCode
control_code_of n =
    cond (eqb n get_driver_info) (Ok GetDriverInfo)
    (cond (eqb n get_cntlr_config) (Ok GetCntlrConfig)
    (cond (eqb n get_cntlr_status) (Ok GetCntlrStatus)
    (cond (eqb n firmware_download) (Ok FirmwareDownload)
    (cond (eqb n get_phy_info) (Ok GetPhyInfo)
    (cond (eqb n set_phy_info) (Ok SetPhyInfo)
    (cond (eqb n get_link_errors) (Ok GetLinkErrors)
    (cond (eqb n stp_passthru) (Ok StpPassthru)
    (cond (eqb n get_sata_signature) (Ok GetSataSignature)
    (cond (eqb n get_scsi_address) (Ok GetScsiAddress)
    (cond (eqb n get_device_address) (Ok GetDeviceAddress)
    (cond (eqb n get_connector_info) (Ok GetConnectorInfo)
    (Err (record {})))))))))))))
