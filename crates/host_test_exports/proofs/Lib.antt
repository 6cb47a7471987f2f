pub mod PutsLaws
