-- The timer of a leader runs out, as the model's does.
use Rattle.std.proofs.Common.{◌≡◌, ℕ, ◌+◌, ◌<◌, true, false, cond, Option, Some, None, List, [], ◌∷◌, ◌++◌, length, take, get_or, map, filter_map, option_map, refl, sym, ap, subst, ◌∙◌}
use Rattle.std.specs.List.{cons_option}
use Rattle.std.proofs.lemmas.Bool.{cond-true, cond-false}
use Rattle.std.proofs.lemmas.List.{take_more}
use Rattle.values.specs.declared.batch.Batch.{Batch}
use Rattle.values.specs.declared.peer.PeerMsg.{PeerMsg}
use Rattle.values.specs.declared.peer.PeerMsg.TheVariants.{Part}
use Rattle.values.specs.declared.peer.TablePart.{TablePart}
use Rattle.group_quorum.specs.Conf.{Conf}
use Rattle.replica_model.specs.declared.Progress.{Progress}
use Rattle.replica_model.specs.Keyed.{value_at, has, put}
use Rattle.replica_model.specs.Linked.{sha_link}
use Rattle.replica_model.specs.Message.{Message}
use Rattle.replica_model.specs.Replica as model
use Rattle.replica_model.specs.Peers.{peers, progress_of, with_progress, leads_with}
use Rattle.replica_model.specs.Tables.{IsTruePart, part_of, part_message, named_by}
use Rattle.replica_model.specs.Call.{empty_batch}
use Rattle.replica_model.specs.Ticks.{sent_again, all_again, tick}
use Rattle.replica_log.specs.Window.{IsOrdered, base_index}
use Rattle.table_transfer.specs.SentTable.{SentTable}
use Rattle.replica_core.specs.Logs.{LogsAreTheModels}
use Rattle.replica_core.specs.declared.role.Role.TheVariants as kept
use Rattle.replica_core.specs.declared.role.Leading.{Leading}
use Rattle.replica_core.specs.declared.holder.Holder.{Holder}
use Rattle.replica_core.specs.declared.send.Appends.TheVariants.{Everyone}
use Rattle.replica_core.specs.Standing.{SendsAs, RoleAs, LeadsAs, HoldsFor}
use Rattle.replica_core.specs.Keeping.{progress_in, learners_in, peers_at}
use Rattle.replica_core.specs.Leads.{holder_leading}
use Rattle.replica_core.specs.Sending.{parts_as, fallen_back, all_fallen_back}
use Rattle.replica_core.specs.Calling.{Does}
use Rattle.replica_core.proofs.Holding.{leader-as, peers-model, base-model}
use Rattle.replica_core.proofs.Leads.{cond_pair, has-as, ValueAs}
use Rattle.replica_core.proofs.Sends.{with-role}
use Rattle.std.specs.Option.{option_to_list}
use Rattle.replica_core.proofs.Tells.{filter_map-push}

-- one peer more falls back
pub fallen-push : (base : ℕ) (ks : List (ℕ × SentTable)) (ps : List (ℕ × Progress)) (vs : List ℕ) (v : ℕ)
    → all_fallen_back base ks ps (vs ++ v ∷ [])
    ≡ cond (has ks v) (all_fallen_back base ks ps vs) (put (all_fallen_back base ks ps vs) v (fallen_back base (progress_in (all_fallen_back base ks ps vs) v)))
fallen-push base ks ps [] v = refl
fallen-push base ks ps (w ∷ vs) v = fallen-push base ks (cond (has ks w) ps (put ps w (fallen_back base (progress_in ps w)))) vs v

-- a leader whose first i peers have fallen back, and one peer more: one to which a table is being sent waits
module _ (l : Leading) (base : ℕ) (vs : List ℕ) (i : ℕ) (lt : i < length vs) (k : Leading)
    (so_far : k ≡ record l { progress = all_fallen_back base l.sendings l.progress (take i vs) }) where
  abbrev peer : ℕ
  peer = get_or vs i 0

  abbrev before : List (ℕ × Progress)
  before = all_fallen_back base l.sendings l.progress (take i vs)

  one-more : all_fallen_back base l.sendings l.progress (take (i + 1) vs) ≡ cond (has l.sendings peer) before (put before peer (fallen_back base (progress_in before peer)))
  one-more = ap (all_fallen_back base l.sendings l.progress) (take_more vs i 0 lt) ∙ fallen-push base l.sendings l.progress (take i vs) peer

  pub fallen-more-held : has k.sendings peer ≡ true → k ≡ record l { progress = all_fallen_back base l.sendings l.progress (take (i + 1) vs) }
  fallen-more-held so =
      let held : has l.sendings peer ≡ true = sym (ap (λ (x : Leading). has x.sendings peer) so_far) ∙ so in
      so_far ∙ ap (λ ps. record l { progress = ps }) (sym (one-more ∙ cond-true (has l.sendings peer) before (put before peer (fallen_back base (progress_in before peer))) held))

  pub fallen-more-put : has k.sendings peer ≡ false
      → record k { progress = put k.progress peer (fallen_back base (progress_in k.progress peer)) } ≡ record l { progress = all_fallen_back base l.sendings l.progress (take (i + 1) vs) }
  fallen-more-put so =
      let held : has l.sendings peer ≡ false = sym (ap (λ (x : Leading). has x.sendings peer) so_far) ∙ so in
      ap (λ (x : Leading). record x { progress = put x.progress peer (fallen_back base (progress_in x.progress peer)) }) so_far
      ∙ ap (λ ps. record l { progress = ps }) (sym (one-more ∙ cond-false (has l.sendings peer) before (put before peer (fallen_back base (progress_in before peer))) held))

-- the model's leader falls back as the code's does
again-as : (s : model.Replica) (ks : List (ℕ × SentTable)) (m : model.Leading) (vs : List ℕ) → ((v : ℕ) → has ks v ≡ has m.sendings v)
    → all_again s m vs ≡ record m { progress = all_fallen_back s.base ks m.progress vs }
again-as s ks m [] same = refl
again-as s ks m (v ∷ vs) same =
    cond_pair (has m.sendings v) (has ks v) m (with_progress m v (sent_again s (progress_of m v))) m.progress (put m.progress v (fallen_back s.base (progress_in m.progress v)))
    (λ (k : model.Leading) (ps : List (ℕ × Progress)). all_again s k vs ≡ record m { progress = all_fallen_back s.base ks ps vs }) (sym (same v))
    (λ t. again-as s ks m vs same)
    (λ f. again-as s ks (with_progress m v (sent_again s (progress_of m v))) vs same)

-- the model's parts, as messages
parts-told : (s : model.Replica) (ms : List (ℕ × model.Sending)) (vs : List ℕ)
    → map {B = ℕ × PeerMsg} (λ (x : ℕ × Message). (x.0, x.1.msg))
    (filter_map (λ (v : ℕ). option_map {U = ℕ × Message} (λ (k : model.Sending). (v, part_message sha_link s k)) (value_at ms v)) vs)
    ≡ parts_as s.limit s.first s.term ms vs
parts-told s ms [] = refl
parts-told s ms (v ∷ vs) = one (value_at ms v) _ _ (parts-told s ms vs)
  where
    one : (o : Option model.Sending) (xs : List (ℕ × Message)) (ys : List (ℕ × PeerMsg)) → map {B = ℕ × PeerMsg} (λ (x : ℕ × Message). (x.0, x.1.msg)) xs ≡ ys
        → map {B = ℕ × PeerMsg} (λ (x : ℕ × Message). (x.0, x.1.msg)) (cons_option (option_map {U = ℕ × Message} (λ (k : model.Sending). (v, part_message sha_link s k)) o) xs)
        ≡ cons_option (option_map {U = ℕ × PeerMsg} (λ (k : model.Sending). (v, Part s.term (part_of sha_link (named_by s k.path) k.part))) o) ys
    one None xs ys e = e
    one (Some k) xs ys e = ap (λ ys. (v, Part s.term (part_of sha_link (named_by s k.path) k.part)) ∷ ys) e

-- the parts that were sent, and that of one peer more
module _ (limit : ℕ) (first : Conf) (term : ℕ) (ms : List (ℕ × model.Sending)) where
  parts-push : (vs : List ℕ) (v : ℕ) → parts_as limit first term ms (vs ++ v ∷ []) ≡ parts_as limit first term ms vs
      ++ option_to_list (option_map (λ (k : model.Sending). (v, Part term (part_of sha_link (record { path = k.path; limit = limit; first = first }) k.part))) (value_at ms v))
  parts-push vs v =
      filter_map-push (λ v. option_map (λ (k : model.Sending). (v, Part term (part_of sha_link (record { path = k.path; limit = limit; first = first }) k.part))) (value_at ms v)) vs v

  pub parts-none : (vs : List ℕ) (v : ℕ) → ValueAs limit first None (value_at ms v) → parts_as limit first term ms (vs ++ v ∷ []) ≡ parts_as limit first term ms vs ++ []
  parts-none vs v h = parts-push vs v ∙ by_value (value_at ms v) h
    where
      by_value : (o : Option model.Sending) → ValueAs limit first None o
          → parts_as limit first term ms vs ++ option_to_list (option_map {U = ℕ × PeerMsg} (λ (k : model.Sending). (v, Part term (part_of sha_link (record { path = k.path; limit = limit; first = first }) k.part))) o)
          ≡ parts_as limit first term ms vs ++ []
      by_value None h = refl
      by_value (Some k) h = absurd h

  pub parts-one : (vs : List ℕ) (v : ℕ) (k : SentTable) (part : TablePart) → ValueAs limit first (Some k) (value_at ms v) → part.part ≡ k.part
      → ((m : model.Sending) → SendsAs limit first k m → IsTruePart sha_link part (record { path = m.path; limit = limit; first = first }))
      → parts_as limit first term ms (vs ++ v ∷ []) ≡ parts_as limit first term ms vs ++ (v, Part term part) ∷ []
  parts-one vs v k part h number is = parts-push vs v ∙ by_value (value_at ms v) h
    where
      by_value : (o : Option model.Sending) → ValueAs limit first (Some k) o
          → parts_as limit first term ms vs ++ option_to_list (option_map {U = ℕ × PeerMsg} (λ (k : model.Sending). (v, Part term (part_of sha_link (record { path = k.path; limit = limit; first = first }) k.part))) o)
          ≡ parts_as limit first term ms vs ++ (v, Part term part) ∷ []
      by_value None h = absurd h
      by_value (Some m) h =
          let names : model.Named = record { path = m.path; limit = limit; first = first } in
          ap (λ (p : TablePart). parts_as limit first term ms vs ++ (v, Part term p) ∷ [])
          (sym ((is m h).is_part ∙ ap (part_of sha_link names) (number ∙ h.part)))

-- the tick of a leader
module _ (logs : LogsAreTheModels) (h : Holder) (s : model.Replica) (st : HoldsFor h s) (o : IsOrdered h.log) (l : Leading) (is : h.role ≡ kept.Leader l) (b : Batch) (empty : b ≡ empty_batch) where
  leads : (m : model.Leading) × ((s.role ≡ model.Leader m) × LeadsAs s.limit s.first l m)
  leads = leader-as s.limit s.first l s.role (subst (λ r. RoleAs s.limit s.first r s.role) is st.role)

  pub ticks : (vs : List ℕ) (h' : Holder) (b' : Batch) → vs ≡ peers_at h.me h.log (learners_in h.role)
      → h' ≡ holder_leading h (λ l. record l { progress = all_fallen_back (base_index h.log) l.sendings l.progress vs })
      → ((m : model.Leading) → s.role ≡ model.Leader m → b' ≡ record b { sent = b.sent ++ parts_as s.limit s.first s.term m.sendings vs })
      → Does h' b' Everyone (tick sha_link s s.role)
  ticks vs h' b' vs-is after sent =
      let m : model.Leading = leads.0 in
      let like : LeadsAs s.limit s.first l m = leads.1.1 in
      let ws : List ℕ = peers s m in
      let vs-are : vs ≡ ws = vs-is ∙ (ap (λ r. peers_at h.me h.log (learners_in r)) is ∙ peers-model logs h s st o l m like) in
      let again : model.Leading = all_again s m ws in
      let again-is : again ≡ record m { progress = all_fallen_back s.base l.sendings m.progress ws } =
      again-as s l.sendings m ws (λ v. has-as s.limit s.first l.sendings m.sendings like.sendings v) in
      let fallen : Leading = record l { progress = all_fallen_back (base_index h.log) l.sendings l.progress vs } in
      let progress : fallen.progress ≡ all_fallen_back s.base l.sendings m.progress ws =
      ap (λ n. all_fallen_back n l.sendings l.progress vs) (base-model logs h.log s st.log)
      ∙ (ap (λ ps. all_fallen_back s.base l.sendings ps vs) like.progress ∙ ap (all_fallen_back s.base l.sendings m.progress) vs-are) in
      let h-is : h' ≡ record h { role = kept.Leader fallen } =
      after ∙ ap (λ r. record h { role = Rattle.replica_core.specs.Leads.role_leading r (λ l. record l { progress = all_fallen_back (base_index h.log) l.sendings l.progress vs }) }) is in
      subst (λ g. Does g b' Everyone (tick sha_link s s.role)) (sym h-is)
      (subst (λ r. Does (record h { role = kept.Leader fallen }) b' Everyone (tick sha_link s r)) (sym leads.1.0)
      (record {
        reaches = record {
          stands = with-role h s (kept.Leader fallen) (model.Leader again) st
              (subst (LeadsAs s.limit s.first fallen) (sym again-is) (record { progress = progress; learners = like.learners; sendings = like.sendings }));
          batch_is =
              sent m leads.1.0
              ∙ (ap (λ (d : Batch). record d { sent = d.sent ++ parts_as s.limit s.first s.term m.sendings vs }) empty
              ∙ (ap (λ us. record empty_batch { sent = parts_as s.limit s.first s.term m.sendings us }) vs-are
              ∙ ap (λ xs. record empty_batch { sent = xs }) (sym (parts-told s m.sendings ws))));
        };
        sends = (again, (refl, sym (ap (λ (k : model.Leading). peers (leads_with s again) k) again-is)));
      }))
