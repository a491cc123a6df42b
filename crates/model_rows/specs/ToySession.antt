-- Sessions over an easy wording of contents, messages and batches.
use Rattle.std.specs.Prelude.{◌≡◌, ℕ, ◌==◌, if◌then◌else◌, slice_index, List, [], ◌∷◌, ◌++◌, map, drop, length, replicate, flat_map, Result, Ok, Err}
use Rattle.std.specs.Int.{w32, to_be_bytes}
use Prim.Native.String.{String}
use Rattle.values.specs.declared.peer.PeerMsg.{PeerMsg}
use Rattle.values.specs.declared.peer.PeerMsg.TheVariants.{AskVote}
use Rattle.replica_model.specs.Replica.{nothing_named}
use Rattle.schedule_model.specs.Lines.{lines_text, batch_lines}
use Rattle.group_model.specs.Enclave.{Begin, Tick, Save, Roll}
use Rattle.trace_model.specs.Session.{Content, Starts, Frames, Hands, Wording, End, untagged, tagged_by, session_with, batch_frames}
use Rattle.model_rows.specs.Shown.{text_of}
use Rattle.model_rows.specs.Toy.{toy_link}

-- a kind byte and what follows it, as the kinds that a host has; any other kind has no meaning here
abbrev pub toy_kind : ℕ → List ℕ → Result Content ℕ
toy_kind kind rest =
    if kind == 1 then Ok (Starts (Begin 1 0 100 rest))
    else if kind == 3 then Ok (Hands Tick)
    else if kind == 4 then Ok (Frames rest)
    else if kind == 9 then Ok (Hands Save)
    else if kind == 10 then Ok (Hands (Roll (slice_index rest 0)))
    else Err kind

abbrev pub toy_content : List ℕ → Result Content ℕ
toy_content [] = Err 0
toy_content (kind ∷ rest) = toy_kind kind rest

-- a vote is asked by three numbers; other bytes have a fault at 7
abbrev pub toy_message : List ℕ → Result PeerMsg ℕ
toy_message (term ∷ index ∷ last_term ∷ []) = Ok (AskVote term index last_term)
toy_message bytes = Err 7

-- a batch as the lines that a trace has of it
abbrev pub toy_wording : Wording ℕ
toy_wording = record { content_of = toy_content; message_of = toy_message; batch_bytes = λ r batch. lines_text (batch_lines r 1 1 batch) }

-- a frame of a content, with no tag and with one
abbrev pub framed : List ℕ → List ℕ
framed content = to_be_bytes w32 (length content) ++ content

abbrev pub frames : List (List ℕ) → List ℕ
frames contents = flat_map framed contents

-- what bytes are answered, and how they end
abbrev pub answers : List ℕ → List String
answers bytes = map (λ frame. text_of (drop 4 frame)) (batch_frames toy_wording untagged toy_link (λ point. nothing_named) bytes)

abbrev pub Ends : List ℕ → End ℕ → Type 0
Ends bytes end = (session_with toy_wording untagged toy_link (λ point. nothing_named) bytes).end ≡ end

-- the same where each frame has a tag of 32 bytes: that of a text is its length, 32 times
abbrev pub toy_hmac : List ℕ → List ℕ
toy_hmac text = replicate 32 (length text)

abbrev pub TaggedEnds : List ℕ → End ℕ → Type 0
TaggedEnds bytes end = (session_with toy_wording (tagged_by toy_hmac) toy_link (λ point. nothing_named) bytes).end ≡ end
