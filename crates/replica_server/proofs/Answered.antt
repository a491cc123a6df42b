-- The batch frame of a content that was handed to the enclave.
use Rattle.std.proofs.Common.{◌≡◌, ℕ, ◌+◌, ◌<◌, ◌≤◌, true, Option, Result, Ok, Err, List, [], ◌++◌, length, take, drop, refl, sym, ap, subst, ◌∙◌, arith, length-append}
use Rattle.std.specs.Int.{w32, to_be_bytes}
use Rattle.std.proofs.Math.Seq.{drop-append_seam}
use Rattle.std.proofs.lemmas.List.{append_assoc, append-nil, take_all, drop_all}
use Rattle.values.specs.declared.entry.Point.{Point}
use Rattle.values.specs.declared.limits.TheConstants.{MAX_BATCH}
use Rattle.replica_model.specs.Linked.{sha_link}
use Rattle.replica_model.specs.Replica.{Named}
use Rattle.group_model.specs.Enclave.{Enclave, Called}
use Rattle.trace_model.specs.Session.{Tagging, batch_frame}
use Rattle.enclave_host.specs.Words.{wording}
use Rattle.enclave_host.specs.declared.running.Running.{Running}
use Rattle.enclave_host.specs.declared.enclave.EnclaveFault.{EnclaveFault}
use Rattle.enclave_host.specs.declared.enclave.EnclaveFault.TheVariants as host
use Rattle.replica_server.specs.declared.answer.Unanswered.TheVariants as answer
use Rattle.replica_server.specs.Answering.{Hands, Answers, IsLeft, IsRight, batch_of}
use Rattle.replica_server.specs.Unanswering.{of_fault}

-- a vector whose bytes were all written
pub all_written : (n : ℕ) (new old : List ℕ) → length new ≡ length old → length new ≤ n → take n (new ++ drop (length new) old) ≡ new
all_written n new old same few =
    ap (λ xs. take n (new ++ xs)) (drop_all (length new) old (omega (arith, same))) ∙ (ap (take n) (append-nil new) ∙ take_all n new few)

-- what stands behind the first bytes
behind_four : (old new batch : List ℕ) → length old ≡ 4 → new ≡ old ++ batch → drop 4 new ≡ batch
behind_four old new batch four e = ap (drop 4) e ∙ subst (λ k. drop k (old ++ batch) ≡ batch) four (drop-append_seam old batch)

module _ (tagging : Tagging) (names : Point → Named) (before : Option Enclave) (content : List ℕ) (number : ℕ) (tag : List ℕ) (right : IsRight tagging names before content number tag) where
  pub answer_failed : (enclave : Option (Option Running)) (old new out : List ℕ) (why : EnclaveFault) → Hands tagging names before content enclave old new (Err why)
      → Answers tagging names before content number tag enclave out (Err (of_fault why))
  answer_failed enclave old new out host.Memory h = tt
  answer_failed enclave old new out host.Spent h = tt
  answer_failed enclave old new out (host.Frame fault) h = (right, h)
  answer_failed enclave old new out host.NotBegun h = (right, h)
  answer_failed enclave old new out host.BegunAgain h = (right, h)

  pub answer_long : (enclave : Option (Option Running)) (old new out : List ℕ) (size : ℕ) → length old ≡ 4 → size + 4 ≡ length new → MAX_BATCH < size
      → Hands tagging names before content enclave old new (Ok tt) → Answers tagging names before content number tag enclave out (Err answer.Limit)
  answer_long enclave old new out size four whole long (said, c, is, leaves) =
      (right, said, c, is, λ true_here. omega (arith, long, whole, four, length-append old (batch_of c), ap length (leaves true_here).1))

  framed : (enclave : Option (Option Running)) (old new patched out : List ℕ) (size : ℕ) (c : Called) → length old ≡ 4 → size + 4 ≡ length new → size ≤ MAX_BATCH
      → IsLeft tagging names before content enclave c → new ≡ old ++ batch_of c → patched ≡ to_be_bytes w32 size ++ drop 4 new
      → out ≡ patched ++ tagging.tag_of number (drop 4 patched)
      → IsLeft tagging names before content enclave c × (length (batch_of c) ≤ MAX_BATCH) × (out ≡ batch_frame wording tagging sha_link names number (batch_of c))
  framed enclave old new patched out size c four whole few is grown patch tagged =
      let batch = batch_of c in
      let long : size ≡ length batch = omega (arith, whole, four, length-append old batch, ap length grown) in
      let header = to_be_bytes w32 (length batch) in
      let put : patched ≡ header ++ batch = patch ∙ (ap (λ n. to_be_bytes w32 n ++ drop 4 new) long ∙ ap (λ xs. header ++ xs) (behind_four old new batch four grown)) in (
        is,
        omega (arith, few, long),
        tagged
            ∙ (ap (λ xs. patched ++ tagging.tag_of number xs) (behind_four header patched batch refl put)
            ∙ (ap (λ xs. xs ++ tagging.tag_of number batch) put ∙ append_assoc header batch (tagging.tag_of number batch))),
      )

  pub answer_whole : (enclave : Option (Option Running)) (old new patched out : List ℕ) (size : ℕ) (t : Tagging) → length old ≡ 4 → size + 4 ≡ length new → size ≤ MAX_BATCH
      → Hands tagging names before content enclave old new (Ok tt) → patched ≡ to_be_bytes w32 size ++ drop 4 new → t ≡ tagging → out ≡ patched ++ t.tag_of number (drop 4 patched)
      → Answers tagging names before content number tag enclave out (Ok tt)
  answer_whole enclave old new patched out size t four whole few (said, c, is, leaves) patch same tagged =
      let of_this : out ≡ patched ++ tagging.tag_of number (drop 4 patched) = tagged ∙ ap (λ x. patched ++ x.tag_of number (drop 4 patched)) same in
      (right, said, c, is, λ true_here. framed enclave old new patched out size c four whole few (leaves true_here).0 (leaves true_here).1 patch of_this)
