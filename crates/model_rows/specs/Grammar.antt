-- Traces with one line that no values in their ranges print.
use Rattle.std.specs.Prelude.{ℕ, List, [], ◌∷◌, ◌++◌, codes}
use Prim.Native.String.{String}
use Rattle.model_rows.specs.Shown.{bytes_of}

-- the trace of one voter and one backup, up to its answer, and after it
abbrev pub before_commit : List String
before_commit =
    "event,1,begin,0,100,1"
    ∷ "event,2,tick,1"
    ∷ "lead,1,1"
    ∷ "commit,1,1,1,noop"
    ∷ "event,3,ask,1,00000000000000000000000000000001,1,12360a10aaaaaaaaaaaaaaaaaaaaaaaaaaaaaaaa122011111111111111111111111111111111111111111111111111111111111111111803"
    ∷ []

abbrev pub commit_line : String
commit_line = "commit,1,2,1,ask,00000000000000000000000000000001,1,12360a10aaaaaaaaaaaaaaaaaaaaaaaaaaaaaaaa122011111111111111111111111111111111111111111111111111111111111111111803"

abbrev pub answer_line : String
answer_line = "answer,1,1,00000000000000000000000000000001,1,outcome,2,done,0a020801"

abbrev pub ending : List String
ending = "log,2" ∷ "rollbacks,within" ∷ "end,3,0,1" ∷ []

-- a response with a status of 2^32 + 1
abbrev pub wide_answer : List ℕ
wide_answer = codes "answer,1,1,00000000000000000000000000000001,1,outcome,2,done,0a06088180808010"

abbrev pub with_wide_status : List ℕ
with_wide_status = bytes_of before_commit ++ (bytes_of (commit_line ∷ []) ++ (wide_answer ++ (10 ∷ bytes_of ending)))

-- a request whose secret begins with a "byte" of 300, of which one digit would be a NUL
abbrev pub odd_commit : List ℕ
odd_commit =
    codes "commit,1,2,1,ask,00000000000000000000000000000001,1,12360a10"
    ++ (0 ∷ codes "caaaaaaaaaaaaaaaaaaaaaaaaaaaaaa122011111111111111111111111111111111111111111111111111111111111111111803")

abbrev pub with_odd_request : List ℕ
with_odd_request = bytes_of before_commit ++ (odd_commit ++ (10 ∷ bytes_of (answer_line ∷ ending)))
