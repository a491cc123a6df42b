use Rattle.std.proofs.Common.{List, [], ◌∷◌, ◌++◌, sym, ap, ◌∙◌, subst}
use Rattle.trace_audit.specs.Books.{AreJudged}
use Rattle.trace_audit.proofs.Places.{TableLaws, judged-push}
use Rattle.trace_audit.specs.declared.book.Place.{Place}
use Rattle.trace_audit.proofs.book.Book.push.Goals as goal

pub invariant_of-self-2 : goal.invariant_of-self-2
invariant_of-self-2 c =
    let p : Place = record { entry = c.args.entry; reply = c.in_ok-reply.reply } in
    let laws : TableLaws = record {
      table = c.fold_grows.ensures.table;
      reply = c.fold_grows.ensures.reply;
      stay = c.replies_stay.ensures;
      bounded = c.tables_are_bounded.ensures;
    } in
    subst (AreJudged c.apply_body.new.table) (sym (c.in_ok-push.ensures.items ∙ ap (λ (xs : List Place). xs ++ p ∷ []) c.reserve.ensures.items))
    (judged-push laws c.self.inside.table c.apply_body.new.table c.self.inside.places.items p c.self.invariant c.in_ok-reply.ensures.table c.in_ok-reply.ensures.reply)
