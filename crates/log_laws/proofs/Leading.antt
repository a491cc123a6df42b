-- What a leader knows of its peers stays good as it hears of them, sends to them and pushes.
use Rattle.std.proofs.Common.{◌≡◌, ℕ, ◌+◌, ◌≤◌, true, false, inl, inr, Some, None, [], ◌∷◌, ◌++◌, length, take, drop, sym, ap, ◌∙◌, subst, append_assoc, arith}
use Rattle.std.specs.Prelude.{unwrap_or}
use Rattle.std.proofs.lemmas.Bool.{cases_Bool}
use Rattle.std.proofs.lemmas.Option.{same_Some}
use Rattle.std.proofs.lemmas.List.{take-append-le, take-append-drop, length_push, same_from_push}
use Rattle.values.specs.declared.entry.LogEntry.{LogEntry}
use Rattle.group_quorum.specs.Conf.{Conf}
use Rattle.replica_model.specs.declared.Progress.{Progress}
use Rattle.replica_model.specs.Path.{Path}
use Rattle.replica_model.specs.Configs.{is_members, conf_index}
use Rattle.replica_model.specs.Keyed.{value_at, put, without}
use Rattle.replica_model.specs.Replica.{Sending, Leading, Replica}
use Rattle.replica_model.specs.Peers.{progress_of, with_progress, others, voters_counted}
use Rattle.replica_model.specs.Votes.{leading_anew}
use Rattle.group_model.specs.Log.{IsFrontOf}
use Rattle.agreement.specs.Promised.{EachPlacePromised}
use Rattle.agreement.proofs.Promised.{each_shorter}
use Rattle.agreement.proofs.Places.{has_members, last_at, take_upto, take_front, take_of_front_of, members_more, members_push, snoc}
pub use Rattle.agreement.proofs.Fronts.{begins}
use Rattle.log_laws.proofs.Lookups.{put_cases, without_stood, map_stands}
use Rattle.log_laws.proofs.Good.{GoodPath, GoodProgress, GoodSending, GoodLeading}

-- nothing is known of a peer
abbrev pub unknown : Progress
unknown = record { next = 0; mark = 0; promised = 0 }

pub front : (k : ℕ) (w : Path) → IsFrontOf (take k w) w
front k w = (drop k w, take-append-drop k w)

module _ (first : Conf) (Ever : ℕ → Path → Type 0) (Held : Path → Type 0) where
  -- a front of a good path
  pub path_shorter : (committed : ℕ) (p w : Path) → IsFrontOf p w → GoodPath first Ever committed w → GoodPath first Ever committed p
  path_shorter committed p w pre g = record {
    safe = each_shorter first Ever (take committed p) (take committed w) (take_of_front_of committed p w pre) g.safe;
    older = λ u e z is m h. g.older u e (z ++ pre.0) (sym (append_assoc u (e ∷ z) pre.0) ∙ (ap (λ x. x ++ pre.0) is ∙ pre.1)) m (members_more z pre.0 h);
  }

  -- the Members entries of a longer path
  older_pushed : (committed : ℕ) (p : Path) (e : LogEntry) → GoodPath first Ever committed p → (is_members e.body ≡ true → conf_index p ≤ committed) → (u : Path) (x : LogEntry) (z : Path) → u ++ x ∷ z ≡ p ++ e ∷ [] → is_members x.body ≡ true → has_members z ≡ true → EachPlacePromised first Ever (u ++ x ∷ [])
  older_pushed committed p e g one u x [] is m h = absurd (let apart : false ≡ true = h in cc)
  older_pushed committed p e g one u x (f ∷ z) is m h =
      let r = snoc f z in
      let same = same_from_push (u ++ x ∷ r.0) p r.1 e (append_assoc u (x ∷ r.0) (r.1 ∷ []) ∙ (ap (λ y. u ++ x ∷ y) (sym r.2) ∙ is)) in
      elim (members_push r.0 r.1 (subst (λ y. has_members y ≡ true) r.2 h)) [
        | inl some ↦ g.older u x r.0 same.0 m some
        | inr last ↦ elim (cases_Bool (has_members r.0)) [
          | inl some ↦ g.older u x r.0 same.0 m some
          | inr none ↦
              let place : conf_index p ≡ length u + 1 = subst (λ y. conf_index y ≡ length u + 1) same.0 (last_at u x r.0 m none) in
              let le : length u + 1 ≤ committed = omega (arith, place, one (subst (λ y. is_members y.body ≡ true) same.1 last)) in
              let upto : take (length u + 1) p ≡ u ++ x ∷ [] = subst (λ y. take (length u + 1) y ≡ u ++ x ∷ []) same.0 (take_upto u x r.0) in
              each_shorter first Ever (u ++ x ∷ []) (take committed p) (subst (λ y. IsFrontOf y (take committed p)) upto (take_front (length u + 1) committed p le)) g.safe
        ]
      ]

  -- one entry more: a Members entry only where the newest one is committed
  pub path_pushed : (committed : ℕ) (p : Path) (e : LogEntry) → committed ≤ length p → GoodPath first Ever committed p → (is_members e.body ≡ true → conf_index p ≤ committed) → GoodPath first Ever committed (p ++ e ∷ [])
  path_pushed committed p e fits g one = record {
    safe = subst (EachPlacePromised first Ever) (sym (take-append-le committed p (e ∷ []) fits)) g.safe;
    older = older_pushed committed p e g one;
  }

  pub leading_pushed : (p : Path) (e : LogEntry) (l : Leading) → GoodLeading first Ever Held p l → GoodLeading first Ever Held (p ++ e ∷ []) l
  leading_pushed p e l g = record {
    progress = λ u.
        let x = g.progress u in
        let next_fits = x.next_fits in
        let mark_fits = x.mark_fits in
        let promised_fits = x.promised_fits in
        record {
          next_fits = omega (arith, length_push p e);
          mark_fits = omega (arith, length_push p e);
          promised_fits = omega (arith, length_push p e);
          promised = λ some. subst (Ever u) (sym (take-append-le (progress_of l u).promised p (e ∷ []) x.promised_fits)) (x.promised some);
        };
    sendings = λ u sending is. let x = g.sendings u sending is in let fits = x.fits in record { table = x.table; fits = omega (arith, length_push p e) };
  }

  pub unknown_good : (path : Path) (u : ℕ) → GoodProgress Ever path u unknown
  unknown_good path u = record { next_fits = omega arith; mark_fits = omega arith; promised_fits = omega arith; promised = λ some. absurd (omega arith) }

  fresh_good : (path : Path) (u : ℕ) → GoodProgress Ever path u (record { next = length path + 1; mark = 0; promised = 0 })
  fresh_good path u = record { next_fits = omega arith; mark_fits = omega arith; promised_fits = omega arith; promised = λ some. absurd (omega arith) }

  -- a new leader knows nothing
  pub anew_good : (s : Replica) → GoodLeading first Ever Held s.path (leading_anew s)
  anew_good s = record {
    progress = λ u. elim (map_stands (others s.me (voters_counted s)) (record { next = length s.path + 1; mark = 0; promised = 0 }) u) [
      | inl some ↦ subst (GoodProgress Ever s.path u) (sym (ap (λ o. unwrap_or o unknown) some))
          (fresh_good s.path u)
      | inr none ↦ subst (GoodProgress Ever s.path u) (sym (ap (λ o. unwrap_or o unknown) none)) (unknown_good s.path u)
    ];
    sendings = λ u sending is. absurd (let apart : None ≡ Some sending = is in cc);
  }

  -- the progress of one peer is put
  pub put_good : (path : Path) (l : Leading) (v : ℕ) (p : Progress) → GoodProgress Ever path v p → GoodLeading first Ever Held path l → GoodLeading first Ever Held path (with_progress l v p)
  put_good path l v p new g = record {
    progress = λ u. elim (put_cases l.progress v p u) [
      | inl here ↦ subst (GoodProgress Ever path u) (sym (ap (λ o. unwrap_or o unknown) here.1)) (subst (λ w. GoodProgress Ever path w p) here.0 new)
      | inr there ↦ subst (GoodProgress Ever path u) (sym (ap (λ o. unwrap_or o unknown) there.1)) (g.progress u)
    ];
    sendings = g.sendings;
  }

  -- a table is being sent to one more
  pub sending_put : (path : Path) (l : Leading) (v : ℕ) (new : Sending) → GoodSending first Ever Held path new → GoodLeading first Ever Held path l → (u : ℕ) (sending : Sending) → value_at (put l.sendings v new) u ≡ Some sending → GoodSending first Ever Held path sending
  sending_put path l v new good g u sending is = elim (put_cases l.sendings v new u) [
    | inl here ↦ subst (GoodSending first Ever Held path) (same_Some new sending (sym here.1 ∙ is)) good
    | inr there ↦ g.sendings u sending (sym there.1 ∙ is)
  ]

  pub sending_gone : (path : Path) (l : Leading) (v : ℕ) → GoodLeading first Ever Held path l → (u : ℕ) (sending : Sending) → value_at (without l.sendings v) u ≡ Some sending → GoodSending first Ever Held path sending
  sending_gone path l v g u sending is = g.sendings u sending (without_stood l.sendings v u sending is)
