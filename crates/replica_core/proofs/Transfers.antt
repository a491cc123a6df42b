-- A leader hears what was taken of the tables that it sends, as the model's does.
use Rattle.std.proofs.Common.{◌≡◌, ℕ, ◌+◌, ◌≤◌, Bool, true, false, cond, ◌&&◌, ◌==◌, nat_lt, Option, Some, None, List, [], ◌∷◌, ◌++◌, length, refl, sym, ap, subst, ◌∙◌, arith}
use Rattle.std.specs.Prelude.{MatchOption, option_map}
use Rattle.std.specs.List.{cons_option}
use Rattle.std.proofs.lemmas.Bool.{cond-true, cond-false, and_parts, eqb-true}
use Rattle.values.specs.declared.batch.Batch.{Batch}
use Rattle.values.specs.declared.entry.Point.{Point}
use Rattle.values.specs.declared.peer.PeerMsg.{PeerMsg}
use Rattle.values.specs.declared.peer.PeerMsg.TheVariants.{Part}
use Rattle.group_quorum.specs.Voters.{is_in}
use Rattle.replica_model.specs.declared.Progress.{Progress}
use Rattle.replica_model.specs.Keyed.{value_at, put, without}
use Rattle.replica_model.specs.Linked.{sha_link}
use Rattle.replica_model.specs.Path.{Path, same_hash, same_point, end_point}
use Rattle.replica_model.specs.Replica as model
use Rattle.replica_model.specs.Peers.{progress_of, with_progress, leads_with}
use Rattle.replica_model.specs.Call.{Call, still, empty_batch}
use Rattle.replica_model.specs.Tables.{parts_of, rows_of, named_by, part_of, part_message, sends_next, sending_done, taken_by, part_taken}
use Rattle.replica_log.specs.Window.{last_index}
use Rattle.table_transfer.specs.declared.sending.Sent.{Sent}
use Rattle.table_transfer.specs.declared.sending.Sent.TheVariants.{Next, Done, Ignored}
use Rattle.table_transfer.specs.SentTable.{SentTable, heard}
use Rattle.replica_core.specs.declared.role.Role.{Role}
use Rattle.replica_core.specs.declared.role.Role.TheVariants as kept
use Rattle.replica_core.specs.declared.role.Leading.{Leading}
use Rattle.replica_core.specs.declared.holder.Holder.{Holder}
use Rattle.replica_core.specs.declared.send.Appends.TheVariants.{Nobody, One}
use Rattle.replica_core.specs.Heard.{sendings_after, sent_by, sendings_by, taken_heard, after_taken, taken_heard_by}
use Rattle.replica_core.specs.Keeping.{progress_in, leads_now, IsWithin, IsSound, IsSoundRole, IsSoundLeading}
use Rattle.replica_core.specs.Leads.{with_progress_in, without_sending, holder_leading}
use Rattle.replica_core.specs.Sending.{parts_as}
use Rattle.replica_core.specs.Standing.{SendsAs, LeadsAs, RoleAs, HoldsFor}
use Rattle.replica_core.specs.Calling.{Does}
use Rattle.replica_core.proofs.Calls.{still-does}
use Rattle.replica_core.proofs.Holding.{leader-as, unless-leader}
use Rattle.replica_core.proofs.Leads.{ValueAs, value-as, put-as, without-as, progress-as}
use Rattle.replica_core.proofs.Listed.{value-put-same, all-put}
use Rattle.replica_core.proofs.Hears.{holder-still, holder-leads, with-progress-as}
use Rattle.replica_core.proofs.Sends.{leads-is, with-role}
use Rattle.replica_core.proofs.Sounds.{led-sound, within-in, sendings-put, sendings-without, sending-within}

-- ---- what is heard of the tables that are being sent

-- what was heard under an id is what it means of the table there
hears-by : (ks after : List (ℕ × SentTable)) (v : ℕ) (point : Point) (next : ℕ) (sent : Sent) (o : Option SentTable)
    → MatchOption o ((sent ≡ Ignored) × (after ≡ ks)) (λ s. (sent ≡ heard s point next) × (after ≡ sendings_after ks v s next sent))
    → (sent ≡ sent_by o point next) × (after ≡ sendings_by ks v o point next)
hears-by ks after v point next sent None h = h
hears-by ks after v point next sent (Some k) h = (h.0, h.1 ∙ ap (sendings_after ks v k next) h.0)

module _ (l : Leading) (v : ℕ) (point : Point) (next : ℕ) where
  -- of a learner
  pub hears-learner : (sent : Sent) (after : List (ℕ × SentTable)) → is_in l.learners v ≡ true
      → MatchOption (value_at l.sendings v) ((sent ≡ Ignored) × (after ≡ l.sendings))
      (λ s. (sent ≡ heard s point next) × (after ≡ sendings_after l.sendings v s next sent))
      → (sent ≡ taken_heard l v point next) × (record l { sendings = after } ≡ after_taken l v point next)
  hears-learner sent after learns h =
      let by = hears-by l.sendings after v point next sent (value_at l.sendings v) h in (
        by.0 ∙ sym (cond-true (is_in l.learners v) (sent_by (value_at l.sendings v) point next) Ignored learns),
        ap (λ ks. record l { sendings = ks }) by.1
            ∙ sym (cond-true (is_in l.learners v) (record l { sendings = sendings_by l.sendings v (value_at l.sendings v) point next }) l learns),
      )

  -- of anybody else
  pub hears-other : is_in l.learners v ≡ false → (Ignored ≡ taken_heard l v point next) × (l ≡ after_taken l v point next)
  hears-other not_so = (
    sym (cond-false (is_in l.learners v) (sent_by (value_at l.sendings v) point next) Ignored not_so),
    sym (cond-false (is_in l.learners v) (record l { sendings = sendings_by l.sendings v (value_at l.sendings v) point next }) l not_so),
  )

-- ---- it means the same to the model

-- two tests, and what comes of them
chosen : {A : Type 0} (f : Sent → A) (a b c : Bool) → f (cond a (cond b Done (cond c Next Ignored)) Ignored) ≡ cond a (cond b (f Done) (cond c (f Next) (f Ignored))) (f Ignored)
chosen f false b c = refl
chosen f true true c = refl
chosen f true false true = refl
chosen f true false false = refl

-- what the model does
abbrev pub comes_of : model.Replica → model.Leading → ℕ → model.Sending → ℕ → Sent → Call
comes_of s m v sending next Next = sends_next sha_link s m v (record sending { part = next })
comes_of s m v sending next Done = sending_done s m v (length sending.path)
comes_of s m v sending next Ignored = still s

module _ (s : model.Replica) (m : model.Leading) (v : ℕ) (point : Point) (next : ℕ) where
  table-heard : (k : SentTable) (sending : model.Sending) → SendsAs s.limit s.first k sending
      → taken_by sha_link s m v (Some sending) point next ≡ comes_of s m v sending next (heard k point next)
  table-heard k sending like =
      let of_path = like.of_path in
      let parts : parts_of k.table.rows ≡ parts_of (rows_of (named_by s sending.path)) = ap (λ t. parts_of t.rows) of_path.table in
      let n : ℕ = parts_of (rows_of (named_by s sending.path)) in
      let same : heard k point next ≡ cond (same_point point (end_point sha_link sending.path)) (cond (next == n) Done (cond (nat_lt sending.part next && nat_lt next n) Next Ignored)) Ignored =
      ap (λ p. cond (same_point point p) (cond (next == parts_of k.table.rows) Done (cond (nat_lt k.part next && nat_lt next (parts_of k.table.rows)) Next Ignored)) Ignored) of_path.point
      ∙ (ap (λ i. cond (same_point point (end_point sha_link sending.path)) (cond (next == i) Done (cond (nat_lt k.part next && nat_lt next i) Next Ignored)) Ignored) parts
      ∙ ap (λ i. cond (same_point point (end_point sha_link sending.path)) (cond (next == n) Done (cond (nat_lt i next && nat_lt next n) Next Ignored)) Ignored) like.part) in
      sym (ap (comes_of s m v sending next) same
      ∙ chosen (comes_of s m v sending next) (same_point point (end_point sha_link sending.path)) (next == n) (nat_lt sending.part next && nat_lt next n))

  -- nothing comes of what is ignored
  by-ignored : (o : Option SentTable) (p : Option model.Sending) → ValueAs s.limit s.first o p → Ignored ≡ sent_by o point next
      → taken_by sha_link s m v p point next ≡ still s
  by-ignored None None h is = refl
  by-ignored None (Some sending) h is = absurd h
  by-ignored (Some k) None h is = absurd h
  by-ignored (Some k) (Some sending) h is = table-heard k sending h ∙ ap (comes_of s m v sending next) (sym is)

-- ---- the replica after it

still-by : (ks : List (ℕ × SentTable)) (v : ℕ) (o : Option SentTable) (point : Point) (next : ℕ) → Ignored ≡ sent_by o point next → sendings_by ks v o point next ≡ ks
still-by ks v None point next is = refl
still-by ks v (Some k) point next is = ap (sendings_after ks v k next) (sym is)

after-still : (l : Leading) (v : ℕ) (point : Point) (next : ℕ) → Ignored ≡ taken_heard l v point next → after_taken l v point next ≡ l
after-still l v point next is = by (is_in l.learners v) refl
  where
    by : (learns : Bool) → is_in l.learners v ≡ learns → after_taken l v point next ≡ l
    by true so =
        cond-true (is_in l.learners v) (record l { sendings = sendings_by l.sendings v (value_at l.sendings v) point next }) l so
        ∙ ap (λ ks. record l { sendings = ks })
        (still-by l.sendings v (value_at l.sendings v) point next (is ∙ cond-true (is_in l.learners v) (sent_by (value_at l.sendings v) point next) Ignored so))
    by false so = cond-false (is_in l.learners v) (record l { sendings = sendings_by l.sendings v (value_at l.sendings v) point next }) l so

-- who does not lead ignores it
unless-leads : (role : Role) (v : ℕ) (point : Point) (next : ℕ) → leads_now role ≡ false → taken_heard_by role v point next ≡ Ignored
unless-leads kept.Follower v point next not_so = refl
unless-leads (kept.Candidate votes) v point next not_so = refl
unless-leads (kept.Leader l) v point next not_so = cc

-- the whole table was taken: it is that of the point
done-same : (a b c : Bool) → Done ≡ cond a (cond b Done (cond c Next Ignored)) Ignored → a ≡ true
done-same true b c is = refl
done-same false b c is = cc

module _ (h : Holder) (v : ℕ) (point : Point) (next : ℕ) (h' : Holder) (after : h' ≡ holder_leading h (λ l. after_taken l v point next)) where
  -- a leader heard of a table that it sends
  pub record KeptSent (sent : Sent) : Type 0 where
    pub leading : Leading
    pub leads : h.role ≡ kept.Leader leading
    pub learns : is_in leading.learners v ≡ true
    pub table : SentTable
    pub at : value_at leading.sendings v ≡ Some table
    pub is_heard : sent ≡ heard table point next
    pub is : h' ≡ record h { role = kept.Leader (record leading { sendings = sendings_after leading.sendings v table next sent }) }

  by-kept : (l : Leading) → h.role ≡ kept.Leader l → is_in l.learners v ≡ true → (sent : Sent) → (sent ≡ Ignored → ⊥) → (o : Option SentTable) → value_at l.sendings v ≡ o
      → sent ≡ sent_by o point next → KeptSent sent
  by-kept l leads learns sent ne None at is = absurd (ne is)
  by-kept l leads learns sent ne (Some k) at is =
      record {
        leading = l;
        leads = leads;
        learns = learns;
        table = k;
        at = at;
        is_heard = is;
        is =
            after
            ∙ (holder-leads h (λ j. after_taken j v point next) l leads
            ∙ ap (λ j. record h { role = kept.Leader j })
            (cond-true (is_in l.learners v) (record l { sendings = sendings_by l.sendings v (value_at l.sendings v) point next }) l learns
            ∙ (ap (λ o. record l { sendings = sendings_by l.sendings v o point next }) at
            ∙ ap (λ x. record l { sendings = sendings_after l.sendings v k next x }) (sym is))));
      }

  pub kept-sent : (sent : Sent) → sent ≡ taken_heard_by h.role v point next → (sent ≡ Ignored → ⊥) → KeptSent sent
  kept-sent sent is ne = by (leads_now h.role) refl
    where
      by_learner : (l : Leading) → h.role ≡ kept.Leader l → (learns : Bool) → is_in l.learners v ≡ learns → KeptSent sent
      by_learner l leads false learns =
          absurd (ne (is ∙ (ap (λ r. taken_heard_by r v point next) leads ∙ cond-false (is_in l.learners v) (sent_by (value_at l.sendings v) point next) Ignored learns)))
      by_learner l leads true learns =
          by-kept l leads learns sent ne (value_at l.sendings v) refl
          (is ∙ (ap (λ r. taken_heard_by r v point next) leads ∙ cond-true (is_in l.learners v) (sent_by (value_at l.sendings v) point next) Ignored learns))

      by : (leads : Bool) → leads_now h.role ≡ leads → KeptSent sent
      by false not_so = absurd (ne (is ∙ unless-leads h.role v point next not_so))
      by true so = let l = leads-is h.role so in by_learner l.0 l.1 (is_in l.0.learners v) refl

  pub next-sound : KeptSent Next → IsSound h → IsSound h'
  next-sound k sound =
      let l : Leading = k.leading in
      let last : ℕ = last_index h.log in
      let leads : IsSoundLeading last l = subst (IsSoundRole last) k.leads sound.role in
      let then : SentTable = record (k.table) { part = next } in
      subst IsSound (sym k.is)
      (led-sound h (record l { sendings = put l.sendings v then }) sound
      (record {
        progress = leads.progress;
        learners = leads.learners;
        sendings = sendings-put last l.sendings v then leads.sendings (sending-within last l.sendings v k.table leads.sendings k.at);
      }))

  -- the table was taken whole: the sending ends
  module _ (k : KeptSent Done) (h'' : Holder) (n : ℕ) (n-is : n ≡ point.index + 1)
      (ends : h'' ≡ holder_leading h' (λ l. with_progress_in (without_sending l v) v (record (progress_in l.progress v) { next = n }))) where
    index-is : point.index ≡ k.table.point.index
    index-is =
        let t : SentTable = k.table in
        let same : same_point point t.point ≡ true =
        done-same (same_point point t.point) (next == parts_of t.table.rows) (nat_lt t.part next && nat_lt next (parts_of t.table.rows)) k.is_heard in
        eqb-true point.index t.point.index (and_parts (point.index == t.point.index) (same_hash point.hash t.point.hash) same).0

    abbrev ended_leading : Leading
    ended_leading = with_progress_in (without_sending k.leading v) v (record (progress_in k.leading.progress v) { next = n })

    ended-is : h'' ≡ record h { role = kept.Leader ended_leading }
    ended-is = ends ∙ ap (λ g. holder_leading g (λ l. with_progress_in (without_sending l v) v (record (progress_in l.progress v) { next = n }))) k.is

    pub done-sound : IsSound h → IsSound h''
    done-sound sound =
        let l : Leading = k.leading in
        let last : ℕ = last_index h.log in
        let leads : IsSoundLeading last l = subst (IsSoundRole last) k.leads sound.role in
        let known : IsWithin last (progress_in l.progress v) = within-in last l.progress v leads.progress in
        let at : k.table.point.index ≤ last = sending-within last l.sendings v k.table leads.sendings k.at in
        let i = index-is in
        let p : Progress = record (progress_in l.progress v) { next = n } in
        subst IsSound (sym ended-is)
        (led-sound h ended_leading sound
        (record {
          progress = all-put (IsWithin last) l.progress v p leads.progress (record { next = omega (arith, n-is, i, at); mark = known.mark });
          learners = leads.learners;
          sendings = sendings-without last l.sendings v leads.sendings;
        }))

  -- ---- as the model's

  module _ (s : model.Replica) (st : HoldsFor h s) (b : Batch) (empty : b ≡ empty_batch) where
    leads-as : (l : Leading) → h.role ≡ kept.Leader l → (m : model.Leading) × ((s.role ≡ model.Leader m) × LeadsAs s.limit s.first l m)
    leads-as l is = leader-as s.limit s.first l s.role (subst (λ r. RoleAs s.limit s.first r s.role) is st.role)

    ignored-by : (k : Leading) (m : model.Leading) → LeadsAs s.limit s.first k m → Ignored ≡ taken_heard k v point next → (learns : Bool) → is_in m.learners v ≡ learns
        → part_taken sha_link s (model.Leader m) v point next ≡ still s
    ignored-by k m like heard_is true learns =
        cond-true (is_in m.learners v) (taken_by sha_link s m v (value_at m.sendings v) point next) (still s) learns
        ∙ by-ignored s m v point next (value_at k.sendings v) (value_at m.sendings v) (value-as s.limit s.first k.sendings m.sendings like.sendings v)
        (heard_is ∙ cond-true (is_in k.learners v) (sent_by (value_at k.sendings v) point next) Ignored (ap (λ ids. is_in ids v) like.learners ∙ learns))
    ignored-by k m like heard_is false learns =
        cond-false (is_in m.learners v) (taken_by sha_link s m v (value_at m.sendings v) point next) (still s) learns

    pub taken-ignored : Ignored ≡ taken_heard_by h.role v point next → (h' ≡ h) × Does h b Nobody (part_taken sha_link s s.role v point next)
    taken-ignored is = by (leads_now h.role) refl
      where
        by : (leads : Bool) → leads_now h.role ≡ leads → (h' ≡ h) × Does h b Nobody (part_taken sha_link s s.role v point next)
        by false not_so = (
          after ∙ holder-still h (λ l. after_taken l v point next) not_so,
          subst (Does h b Nobody)
              (sym (unless-leader s.limit s.first h.role s.role st.role not_so (λ r. part_taken sha_link s r v point next ≡ still s) refl (λ ids. refl)))
              (still-does h b s st empty),
        )
        by true so =
            let l = leads-is h.role so in
            let k : Leading = l.0 in
            let m = leads-as k l.1 in
            let heard_is : Ignored ≡ taken_heard k v point next = is ∙ ap (λ r. taken_heard_by r v point next) l.1 in (
              after
                  ∙ (holder-leads h (λ j. after_taken j v point next) k l.1
                  ∙ (ap (λ j. record h { role = kept.Leader j }) (after-still k v point next heard_is) ∙ ap (λ r. record h { role = r }) (sym l.1))),
              subst (Does h b Nobody)
                  (sym (ap (λ r. part_taken sha_link s r v point next) m.1.0 ∙ ignored-by k m.0 m.1.1 heard_is (is_in m.0.learners v) refl))
                  (still-does h b s st empty),
            )

    -- the model heard of the same table
    pub record ModelSent (sent : Sent) (k : KeptSent sent) : Type 0 where
      pub leading : model.Leading
      pub like : LeadsAs s.limit s.first k.leading leading
      pub sending : model.Sending
      pub same : SendsAs s.limit s.first k.table sending
      pub call : part_taken sha_link s s.role v point next ≡ comes_of s leading v sending next sent

    by-model : (sent : Sent) (k : KeptSent sent) (m : model.Leading) → s.role ≡ model.Leader m → LeadsAs s.limit s.first k.leading m
        → (p : Option model.Sending) → value_at m.sendings v ≡ p → ValueAs s.limit s.first (Some k.table) p → ModelSent sent k
    by-model sent k m is like None at h = absurd h
    by-model sent k m is like (Some sending) at h =
        record {
          leading = m;
          like = like;
          sending = sending;
          same = h;
          call =
              ap (λ r. part_taken sha_link s r v point next) is
              ∙ (cond-true (is_in m.learners v) (taken_by sha_link s m v (value_at m.sendings v) point next) (still s) (ap (λ ids. is_in ids v) (sym like.learners) ∙ k.learns)
              ∙ (ap (λ o. taken_by sha_link s m v o point next) at
              ∙ (table-heard s m v point next k.table sending h ∙ ap (comes_of s m v sending next) (sym k.is_heard))));
        }

    pub model-sent : (sent : Sent) (k : KeptSent sent) → ModelSent sent k
    model-sent sent k =
        let m = leads-as k.leading k.leads in
        by-model sent k m.0 m.1.0 m.1.1 (value_at m.0.sendings v) refl
        (subst (λ o. ValueAs s.limit s.first o (value_at m.0.sendings v)) k.at (value-as s.limit s.first k.leading.sendings m.0.sendings m.1.1.sendings v))

    -- the next part goes out
    module _ (k : KeptSent Next) where
      sent : ModelSent Next k
      sent = model-sent Next k

      abbrev sending_then : model.Sending
      sending_then = record (sent.sending) { part = next }

      abbrev model_then : model.Leading
      model_then = record (sent.leading) { sendings = put sent.leading.sendings v sending_then }

      stands_then : HoldsFor h' (leads_with s model_then)
      stands_then =
          let of_path = sent.same.of_path in
          let then : SentTable = record (k.table) { part = next } in
          subst (λ g. HoldsFor g (leads_with s model_then)) (sym k.is)
          (with-role h s (kept.Leader (record (k.leading) { sendings = put k.leading.sendings v then })) (model.Leader model_then) st
          (record {
            progress = sent.like.progress;
            learners = sent.like.learners;
            sendings = put-as s.limit s.first k.leading.sendings sent.leading.sendings sent.like.sendings v then sending_then
                (record {
                  of_path = record { point = of_path.point; last_term = of_path.last_term; conf = of_path.conf; conf_index = of_path.conf_index; table = of_path.table };
                  part = refl;
                });
          }))

      pub next-does : (b' : Batch) → ((s' : model.Replica) (m' : model.Leading) → HoldsFor h' s' → s'.role ≡ model.Leader m'
          → b' ≡ record b { sent = b.sent ++ parts_as s'.limit s'.first s'.term m'.sendings (v ∷ []) })
          → Does h' b' Nobody (part_taken sha_link s s.role v point next)
      next-does b' sends =
          let part : ℕ × PeerMsg = (v, (part_message sha_link s sending_then).msg) in
          let one : parts_as s.limit s.first s.term model_then.sendings (v ∷ []) ≡ part ∷ [] =
          ap (λ (o : Option model.Sending). cons_option
          (option_map {U = ℕ × PeerMsg} (λ (x : model.Sending). (v, Part s.term (part_of sha_link (record { path = x.path; limit = s.limit; first = s.first }) x.part))) o) [])
          (value-put-same sent.leading.sendings v sending_then) in
          subst (Does h' b' Nobody) (sym sent.call)
          (record {
            reaches = record {
              stands = stands_then;
              batch_is =
                  sends (leads_with s model_then) model_then stands_then refl
                  ∙ (ap (λ (d : Batch). record d { sent = d.sent ++ parts_as s.limit s.first s.term model_then.sendings (v ∷ []) }) empty
                  ∙ ap (λ xs. record empty_batch { sent = xs }) one);
            };
            sends = refl;
          })

    pub done-does : (k : KeptSent Done) (h'' : Holder) (n : ℕ) → n ≡ point.index + 1
        → h'' ≡ holder_leading h' (λ l. with_progress_in (without_sending l v) v (record (progress_in l.progress v) { next = n }))
        → Does h'' b (One v) (part_taken sha_link s s.role v point next)
    done-does k h'' n n-is ends =
        let sent : ModelSent Done k = model-sent Done k in
        let l : Leading = k.leading in
        let m : model.Leading = sent.leading in
        let path : Path = sent.sending.path in
        let n-model : n ≡ length path + 1 = n-is ∙ (ap (λ i. i + 1) (index-is k h'' n n-is ends) ∙ ap (λ (p : Point). p.index + 1) sent.same.of_path.point) in
        let m' : model.Leading = record m { sendings = without m.sendings v } in
        let like : LeadsAs s.limit s.first (without_sending l v) m' =
        record {
          progress = sent.like.progress;
          learners = sent.like.learners;
          sendings = without-as s.limit s.first l.sendings m.sendings sent.like.sendings v;
        } in
        let p : Progress = record (progress_in l.progress v) { next = n } in
        let q : Progress = record (progress_of m v) { next = length path + 1 } in
        let same : p ≡ q =
        ap (λ (x : Progress). record x { next = n }) (progress-as s.limit s.first l m sent.like v) ∙ ap (λ i. record (progress_of m v) { next = i }) n-model in
        subst (Does h'' b (One v)) (sym sent.call)
        (subst (λ g. Does g b (One v) (sending_done s m v (length path))) (sym (ended-is k h'' n n-is ends))
        (record {
          reaches = record {
            stands = with-role h s (kept.Leader (with_progress_in (without_sending l v) v p)) (model.Leader (with_progress m' v q)) st
                (with-progress-as s (without_sending l v) m' v p q like same);
            batch_is = empty;
          };
          sends = refl;
        }))

pub next-told : Next ≡ Ignored → ⊥
next-told is = cc

pub done-told : Done ≡ Ignored → ⊥
done-told is = cc
