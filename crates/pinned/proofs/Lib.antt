pub mod PinnedLaws
