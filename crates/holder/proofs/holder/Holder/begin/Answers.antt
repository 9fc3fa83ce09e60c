use Rattle.std.proofs.Common.{◌≡◌, true, false, eqb, Some, None, Ok, Err, sym, refl, ap, ◌∙◌, subst, eq-eqb}
use Rattle.std.proofs.lemmas.Result.{err_from_is_err_and}
use Rattle.std.proofs.lemmas.Bool.{ne_eqb}
use Rattle.faults.specs.Faults.{then}
use Rattle.places.specs.Places.{place_of}
use Rattle.drafts.specs.declared.call.Call.TheVariants.{Begin}
use Rattle.drafts.specs.declared.call.Reply.TheVariants.{Number}
use Rattle.drafts.specs.declared.state.Draft.{Draft}
use Rattle.drafts.specs.Mem.{Mem, mem_of}
use Rattle.drafts.specs.Steps.{Step, Held, world, held, sized_for, spaced, draft_at, place_by}
use Rattle.holder.specs.Worlds.{held_by, layout_in}
use Rattle.holder.specs.Told.{told_begin, LiveBegin}
use Rattle.holder.proofs.Calls.{still, looked_quiet}
use Rattle.holder.proofs.Opens.{begin_err, begin_ok, room_by, room_pages, room_one, none_is}
use Rattle.holder.proofs.holder.Holder.begin.Goals as goal

pub returns-then-layout-ne1 : goal.returns-then-layout-ne1
returns-then-layout-ne1 g c =
    let h : Held = held_by c.args.self.now.state in
    let m : Mem = mem_of g.C.Store c.args.self.now.store in
    let l = c.in-Some.page.layout in
    let free : h.draft ≡ None = none_is c.args.self.now.state.draft (sym c.is_some.ensures ∙ c.if-is_some.false) in
    let several : eqb l.directories 1 ≡ false = ne_eqb l.directories 1 (λ e. c.if-layout-ne1.true (ap (λ x. x.directories) c.layout.ensures ∙ e)) in
    record {
      step = begin_err h c.args.view c.args.plan c.fault-then-layout-ne1.result (still m)
          (room_by m.seen h l c.args.view c.args.plan free (ap layout_in c.in-Some.is) ∙ room_pages m.seen l c.args.view c.args.plan several ∙ ap Err (sym c.fault-then-layout-ne1.ensures));
      live = tt;
    }

pub returns-in_err-size : goal.returns-in_err-size
returns-in_err-size g c =
    let h : Held = held_by c.args.self.now.state in
    let m : Mem = mem_of g.C.Store c.args.self.now.store in
    let l = c.in-Some.page.layout in
    let free : h.draft ≡ None = none_is c.args.self.now.state.draft (sym c.is_some.ensures ∙ c.if-is_some.false) in
    let one : eqb l.directories 1 ≡ true = eq-eqb l.directories 1 (sym (ap (λ x. x.directories) c.layout.ensures) ∙ c.if-layout-ne1.false) in
    let sized : sized_for l c.args.view c.args.plan ≡ Err c.in_err-size.field-0.0 = sym c.size_for.ensures ∙ c.in_err-size.was in
    let f = err_from_is_err_and c.from_residual.result c.from_residual.ensures.1 in
    let told = f.1 ∙ ap Err f.2 in
    let room : place_by m.seen c.args.view c.args.plan h.draft h.page ≡ Err c.in_err-size.field-0.0 =
    room_by m.seen h l c.args.view c.args.plan free (ap layout_in c.in-Some.is)
    ∙ room_one m.seen l c.args.view c.args.plan one
    ∙ ap (λ r. then r (λ size. spaced (place_of m.seen l size))) sized in
    record {
      step = subst (λ r. Step (Begin c.args.view c.args.plan) (world h m) (told_begin r) (world h m)) (sym told)
          (begin_err h c.args.view c.args.plan c.in_err-size.field-0.0 (still m) room);
      live = subst LiveBegin (sym told) tt;
    }

pub returns-in_default-find_place : goal.returns-in_default-find_place
returns-in_default-find_place g c =
    let h : Held = held_by c.args.self.now.state in
    let m : Mem = mem_of g.C.Store c.args.self.now.store in
    let l = c.in-Some.page.layout in
    let free : h.draft ≡ None = none_is c.args.self.now.state.draft (sym c.is_some.ensures ∙ c.if-is_some.false) in
    let one : eqb l.directories 1 ≡ true = eq-eqb l.directories 1 (sym (ap (λ x. x.directories) c.layout.ensures) ∙ c.if-layout-ne1.false) in
    let sized : sized_for l c.args.view c.args.plan ≡ Ok c.in_ok-size.size = sym c.size_for.ensures ∙ c.in_ok-size.was in
    let place : place_of m.seen l c.in_ok-size.size ≡ None = sym c.find_place.ensures.value ∙ c.in_default-find_place.is in
    record {
      step = begin_err h c.args.view c.args.plan c.fault-in_default-find_place.result
          (looked_quiet g.C.Store c.find_place.ensures.looked)
          (room_by m.seen h l c.args.view c.args.plan free (ap layout_in c.in-Some.is)
          ∙ room_one m.seen l c.args.view c.args.plan one
          ∙ ap (λ r. then r (λ size. spaced (place_of m.seen l size))) sized
          ∙ ap spaced place ∙ ap Err (sym c.fault-in_default-find_place.ensures));
      live = tt;
    }

pub returns : goal.returns
returns g c =
    let h : Held = held_by c.args.self.now.state in
    let m : Mem = mem_of g.C.Store c.args.self.now.store in
    let n : Mem = mem_of g.C.Store c.find_place.new.store in
    let l = c.in-Some.page.layout in
    let free : h.draft ≡ None = none_is c.args.self.now.state.draft (sym c.is_some.ensures ∙ c.if-is_some.false) in
    let one : eqb l.directories 1 ≡ true = eq-eqb l.directories 1 (sym (ap (λ x. x.directories) c.layout.ensures) ∙ c.if-layout-ne1.false) in
    let sized : sized_for l c.args.view c.args.plan ≡ Ok c.in_ok-size.size = sym c.size_for.ensures ∙ c.in_ok-size.was in
    let place : place_of m.seen l c.in_ok-size.size ≡ Some c.in-Some-find_place.place = sym c.find_place.ensures.value ∙ c.in-Some-find_place.is in
    let d : Draft = draft_at c.args.view c.args.plan c.in-Some-find_place.place in
    record {
      step = subst (λ k. Step (Begin c.args.view c.args.plan) (world h m) (Ok (Number k)) (world (held h.page h.arrow (Some d)) n)) (sym c.sectors_of.ensures)
          (begin_ok h l c.args.view c.args.plan c.in_ok-size.size c.in-Some-find_place.place d
          (looked_quiet g.C.Store c.find_place.ensures.looked)
          free (ap layout_in c.in-Some.is) one sized place refl);
      live = c.new.ensures;
    }
