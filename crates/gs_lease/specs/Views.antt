-- Views with a primary and without.
use Rattle.std.specs.Prelude.{None}
use Rattle.gs_lease.specs.declared.view.View.{View}
use Rattle.gs_lease.specs.declared.view.QuietView.{QuietView}

abbrev pub as_view : QuietView → View
as_view quiet = record { stamp = quiet.stamp; count = quiet.count; members = quiet.members; term = None }

-- a view without its term
abbrev pub without_term : View → QuietView
without_term view = record { stamp = view.stamp; count = view.count; members = view.members }
