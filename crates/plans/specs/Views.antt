-- Views: a rectangle of a picture, turned. Assumes nothing.
use Rattle.std.specs.Prelude.{◌≡◌, ℕ, ◌<◌, Bool, true, cond, not, ◌&&◌, Ok, Result}
use Rattle.faults.specs.declared.fault.Check.TheVariants.{View as ViewCheck}
use Rattle.faults.specs.declared.fault.Fault.{Fault}
use Rattle.faults.specs.Faults.{bare, refused}
use Rattle.raster.specs.Picture.{Picture, Sound}
use Rattle.raster.specs.Views.{area_fits, crop_of, swaps, turn_by}
use Rattle.pages.specs.Pages.{between}
use Rattle.plans.specs.declared.view.View.{View}

-- what is seen of a picture through a view
abbrev pub viewed : Picture → View → Picture
viewed p v = turn_by v.turn (crop_of p v.area)

-- a view of a picture of these sides: an area with sides above 0 that passes no edge, and a turn from 1 to 8
abbrev pub shows_in : ℕ → ℕ → View → Bool
shows_in width height v = area_fits width height v.area && between 1 8 v.turn

abbrev pub shows : Picture → View → Bool
shows p v = shows_in p.width p.height v

-- any other is refused
abbrev pub view_checked : ℕ → ℕ → View → Result (Unit {0}) Fault
view_checked width height v = refused (not (shows_in width height v)) (bare ViewCheck) (Ok tt)

-- the sides of what is seen
abbrev pub view_width : View → ℕ
view_width v = cond (swaps v.turn) v.area.height v.area.width

abbrev pub view_height : View → ℕ
view_height v = cond (swaps v.turn) v.area.width v.area.height

-- what is seen of a picture through a view of it has these sides and the picture's kind, and is not empty
pub record Seen (p : Picture) (v : View) : Type 0 where
  pub wide : (viewed p v).width ≡ view_width v
  pub high : (viewed p v).height ≡ view_height v
  pub kind : (viewed p v).kind ≡ p.kind
  pub some : 0 < (viewed p v).width
  pub sound : Sound p → Sound (viewed p v)

abbrev pub ViewsShow : Type 0
ViewsShow = (p : Picture) (v : View) → shows p v ≡ true → Seen p v
