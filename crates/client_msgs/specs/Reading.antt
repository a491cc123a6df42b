-- The value that bytes stand for, or why they stand for none.
use Rattle.std.specs.Prelude.{◌≡◌, ℕ, List, Option, None, Some, Result, Ok, Err, IsOk, ◌==◌, if◌then◌else◌}
use Rattle.proto_wire.specs.declared.field.WireFault.{WireFault}
use Rattle.proto_wire.specs.Fields.{Field, sequence_at}
use Rattle.proto_wire.specs.Reading.{u32_of, bytes_of, last_member, first_fault}
use Rattle.values.specs.declared.message.Part.{Part}
use Rattle.values.specs.declared.message.Request.{Request}
use Rattle.values.specs.declared.message.Request.TheVariants as requests
use Rattle.values.specs.declared.message.Response.{Response}
use Rattle.values.specs.declared.message.Response.TheVariants as responses
use Rattle.client_msgs.specs.declared.fault.RequestFault.{RequestFault}
use Rattle.client_msgs.specs.declared.fault.RequestFault.TheVariants as request_faults
use Rattle.client_msgs.specs.declared.fault.ResponseFault.{ResponseFault}
use Rattle.client_msgs.specs.declared.fault.ResponseFault.TheVariants as response_faults
use Rattle.client_msgs.specs.Sizes.{size_fault}

-- what the fields of a member of this number make, where any sizes are let stand
abbrev pub request_from : ℕ → List Field → Request
request_from number fs =
    if number == 2 then requests.Backup (bytes_of 1 fs) (record { 0 = bytes_of 2 fs }) (u32_of 3 fs)
    else if number == 3 then requests.Restore (record { 0 = bytes_of 1 fs })
    else if number == 4 then requests.Delete
    else requests.Expose (bytes_of 1 fs)

abbrev pub response_from : ℕ → List Field → Response
response_from number fs =
    if number == 1 then responses.Backup (u32_of 1 fs)
    else if number == 2 then responses.Restore (u32_of 1 fs) (bytes_of 2 fs) (u32_of 3 fs)
    else if number == 3 then responses.Delete
    else responses.Expose (u32_of 1 fs)

-- the request, if its sizes are in range
abbrev pub if_sized : Option (Part × ℕ) → Request → Result Request RequestFault
if_sized None request = Ok request
if_sized (Some (part, size)) request = Err (request_faults.Size part size)

abbrev pub sized : Request → Result Request RequestFault
sized request = if_sized (size_fault request) request

-- by the first fault and the member that stands last
abbrev pub request_in : Option WireFault → Option (ℕ × List Field) → Result Request RequestFault
request_in (Some fault) last = Err (request_faults.Wire fault)
request_in None None = Err request_faults.Nothing
request_in None (Some (number, fs)) = sized (request_from number fs)

abbrev pub response_in : Option WireFault → Option (ℕ × List Field) → Result Response ResponseFault
response_in (Some fault) last = Err (response_faults.Wire fault)
response_in None None = Err response_faults.Nothing
response_in None (Some (number, fs)) = Ok (response_from number fs)

-- the request, and the response, that bytes stand for
abbrev pub request_of : List ℕ → Result Request RequestFault
request_of bytes = request_in (first_fault 2 5 (sequence_at 0 bytes)) (last_member 2 5 (sequence_at 0 bytes).fields)

abbrev pub response_of : List ℕ → Result Response ResponseFault
response_of bytes = response_in (first_fault 1 4 (sequence_at 0 bytes)) (last_member 1 4 (sequence_at 0 bytes).fields)

-- What is read is what the bytes stand for. Want of memory hides a value only, and no fault.
abbrev pub ReadsRequest : Result Request RequestFault → Result Request RequestFault → Type 0
ReadsRequest (Ok request) read = read ≡ Ok request
ReadsRequest (Err request_faults.Memory) read = IsOk read
ReadsRequest (Err (request_faults.Wire fault)) read = read ≡ Err (request_faults.Wire fault)
ReadsRequest (Err request_faults.Nothing) read = read ≡ Err request_faults.Nothing
ReadsRequest (Err (request_faults.Size part size)) read = read ≡ Err (request_faults.Size part size)

abbrev pub ReadsResponse : Result Response ResponseFault → Result Response ResponseFault → Type 0
ReadsResponse (Ok response) read = read ≡ Ok response
ReadsResponse (Err response_faults.Memory) read = IsOk read
ReadsResponse (Err (response_faults.Wire fault)) read = read ≡ Err (response_faults.Wire fault)
ReadsResponse (Err response_faults.Nothing) read = read ≡ Err response_faults.Nothing
