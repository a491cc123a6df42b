-- The one list of bytes that a value is written as.
use Rattle.std.specs.Prelude.{ℕ, List, [], ◌++◌}
use Rattle.proto_wire.specs.Written.{varint_field, block_field, message_field}
use Rattle.values.specs.declared.message.Request.{Request}
use Rattle.values.specs.declared.message.Request.TheVariants as requests
use Rattle.values.specs.declared.message.Response.{Response}
use Rattle.values.specs.declared.message.Response.TheVariants as responses

-- the number of the member, and its fields
abbrev pub request_number : Request → ℕ
request_number (requests.Backup secret pin tries) = 2
request_number (requests.Restore pin) = 3
request_number requests.Delete = 4
request_number (requests.Expose secret) = 5

abbrev pub request_fields : Request → List ℕ
request_fields (requests.Backup secret pin tries) = block_field 1 secret ++ block_field 2 pin.0 ++ varint_field 3 tries
request_fields (requests.Restore pin) = block_field 1 pin.0
request_fields requests.Delete = []
request_fields (requests.Expose secret) = block_field 1 secret

abbrev pub canonical_request : Request → List ℕ
canonical_request request = message_field (request_number request) (request_fields request)

abbrev pub response_number : Response → ℕ
response_number (responses.Backup status) = 1
response_number (responses.Restore status secret tries) = 2
response_number responses.Delete = 3
response_number (responses.Expose status) = 4

abbrev pub response_fields : Response → List ℕ
response_fields (responses.Backup status) = varint_field 1 status
response_fields (responses.Restore status secret tries) = varint_field 1 status ++ block_field 2 secret ++ varint_field 3 tries
response_fields responses.Delete = []
response_fields (responses.Expose status) = varint_field 1 status

abbrev pub canonical_response : Response → List ℕ
canonical_response response = message_field (response_number response) (response_fields response)
