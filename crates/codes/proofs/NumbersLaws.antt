-- The number of a refusal, and the call's own number of an error, are never 0. Assumes nothing.
use Rattle.std.proofs.Common.{◌≡◌}
use native.Mathlib.Omega.{arith}
use Rattle.codes.specs.declared.return_code.ReturnCode.{ReturnCode}
use Rattle.codes.specs.declared.return_code.ReturnCode.TheVariants.{Failed, BadControlCode, InvalidParameter, WriteAttempted, PhyInfoNotChangeable, LinkRateOutOfRange, PhyDoesNotExist, PhyDoesNotMatchPort, SelectPhyOrPort, PortDoesNotExist, ConnectionFailed, NoSataDevice, NoSataSignature, NoScsiAddress, NoDeviceAddress}
use Rattle.codes.specs.declared.call_error.CallError.{CallError}
use Rattle.codes.specs.declared.call_error.CallError.TheVariants.{ShortBuffer, BadText, BadFileLength, BlockCheck, BadField, SharedRow, BadMediumLength, BadState}
use Rattle.codes.specs.Numbers.{return_number, error_number}

pub refusal_some : (code : ReturnCode) → return_number code ≡ 0 → ⊥
refusal_some Failed z = omega arith
refusal_some BadControlCode z = omega arith
refusal_some InvalidParameter z = omega arith
refusal_some WriteAttempted z = omega arith
refusal_some PhyInfoNotChangeable z = omega arith
refusal_some LinkRateOutOfRange z = omega arith
refusal_some PhyDoesNotExist z = omega arith
refusal_some PhyDoesNotMatchPort z = omega arith
refusal_some SelectPhyOrPort z = omega arith
refusal_some PortDoesNotExist z = omega arith
refusal_some ConnectionFailed z = omega arith
refusal_some NoSataDevice z = omega arith
refusal_some NoSataSignature z = omega arith
refusal_some NoScsiAddress z = omega arith
refusal_some NoDeviceAddress z = omega arith

pub error_some : (error : CallError) → error_number error ≡ 0 → ⊥
error_some ShortBuffer z = omega arith
error_some BadText z = omega arith
error_some BadFileLength z = omega arith
error_some BlockCheck z = omega arith
error_some BadField z = omega arith
error_some SharedRow z = omega arith
error_some BadMediumLength z = omega arith
error_some BadState z = omega arith
